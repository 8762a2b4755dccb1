use Rattle.std.proofs.Common.{drop}
use Rattle.sheet_lines.specs.Texts.{path_lines}
use Rattle.sheet_writing.proofs.Writers.{SoFar}
use Rattle.sheet_writing.proofs.writer.Writer.path_lines.Given as goal

abbrev pub invariant-loop-path : goal.invariant-loop-path
invariant-loop-path l = SoFar l.initial.self (path_lines l.fn.parts l.paths) (path_lines l.fn.parts (drop l.path-index l.paths)) l.self
