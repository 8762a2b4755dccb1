use Rattle.sheet_writing.proofs.Lines.{next_part}
use Rattle.sheet_writing.proofs.writer.Writer.part_lines.Goals as goal

pub loop-place-preserved : goal.loop-place-preserved
loop-place-preserved c = next_part _ _ _ c.loop-place.place c.args.parts.now c.index-parts-place.result c.loop-place-test.true c.index-parts-place.is c.loop-place.invariant c.part_line.ensures
