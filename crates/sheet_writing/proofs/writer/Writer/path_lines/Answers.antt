use Rattle.sheet_writing.proofs.Lines.{next_path}
use Rattle.sheet_writing.proofs.writer.Writer.path_lines.Goals as goal

pub loop-path-preserved : goal.loop-path-preserved
loop-path-preserved c = next_path _ _ _ c.loop-path.path-index c.args.parts c.args.paths.now c.loop-path-test.true c.loop-path.invariant c.path_line.ensures
