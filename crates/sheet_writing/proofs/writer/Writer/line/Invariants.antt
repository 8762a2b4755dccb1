use Rattle.std.proofs.Common.{drop}
use Rattle.sheet_lines.specs.Texts.{after_commas}
use Rattle.sheet_writing.proofs.Writers.{SoFar}
use Rattle.sheet_writing.proofs.writer.Writer.line.Given as goal

abbrev pub invariant-loop-number : goal.invariant-loop-number
invariant-loop-number l = SoFar l.initial.self (after_commas l.numbers) (after_commas (drop l.number-index l.numbers)) l.self
