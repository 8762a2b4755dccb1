use Rattle.std.proofs.Common.{suc, drop}
use Rattle.sheet_lines.specs.Texts.{part_lines}
use Rattle.sheet_writing.proofs.Writers.{SoFar}
use Rattle.sheet_writing.proofs.writer.Writer.part_lines.Given as goal

abbrev pub invariant-loop-place : goal.invariant-loop-place
invariant-loop-place l = SoFar l.initial.self (part_lines 1 l.parts) (part_lines (suc l.place) (drop l.place l.parts)) l.self
