use Rattle.std.proofs.lemmas.List.{at_drop_all}
use Rattle.sheet_lines.specs.Texts.{after_commas}
use Rattle.sheet_writing.proofs.Lines.{next_number, line_written}
use Rattle.sheet_writing.proofs.Writers.{all_written}
use Rattle.sheet_writing.proofs.writer.Writer.line.Goals as goal

pub loop-number-preserved : goal.loop-number-preserved
loop-number-preserved c = next_number _ _ _ c.loop-number.number-index c.args.numbers.now c.loop-number-test.true c.loop-number.invariant c.number.ensures

pub returns : goal.returns
returns c =
    let none = at_drop_all after_commas c.args.numbers.now c.loop-number.number-index c.loop-number-test.false in
    line_written _ _ _ _ c.args.kind c.args.numbers.now c.word.ensures (all_written _ _ _ _ c.loop-number.invariant none) c.bytes.ensures
