use Rattle.std.proofs.Common.{[]}
use Rattle.sheet_lines.specs.Texts.{after_commas, members}
use Rattle.sheet_writing.specs.Writers.{Wrote}
use Rattle.sheet_writing.proofs.writer.Writer.path_line.Given as goal

abbrev pub invariant-loop-place : goal.invariant-loop-place
invariant-loop-place l = Wrote l.initial.self (after_commas (members l.place l.path [])) l.self
