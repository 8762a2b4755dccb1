use Rattle.std.proofs.Common.{◌≡◌, length}
use Rattle.sheet_lines.specs.Lines.{rest_of}
use Rattle.sheet_reading.specs.Books.{content_of}
use Rattle.sheet_reading.proofs.TextSteps.{SoFar}
use Rattle.sheet_reading.proofs.reading.read_lines.Given as goal

abbrev pub invariant-loop-book : goal.invariant-loop-book
invariant-loop-book l = SoFar l.most l.text (content_of l.book) (rest_of l.reader) l.lines × (l.reader.lines ≡ l.lines) × (l.reader.text.now ≡ l.text)

abbrev pub decreases-loop-book : goal.decreases-loop-book
decreases-loop-book l = length (rest_of l.reader)
