use Rattle.std.proofs.Common.{◌<◌, length, get_or, ap, ◌∙◌, arith, length-take}
use Rattle.std.proofs.lemmas.List.{get_or-take}
use Rattle.sheet.specs.Parts.{parts_of}
use Rattle.states.proofs.Masses.{after_part}
use Rattle.states.proofs.state.State.left_after.Goals as goal

pub loop-place-preserved : goal.loop-place-preserved
loop-place-preserved c =
    let place = c.loop-place.place in
    let part = c.part-item.result in
    let early : place < c.args.count = omega (arith, length-take c.args.count c.parts.result.now) in
    let known : place < length (parts_of c.args.sheet.now) = omega arith in
    let read = c.part-item.is ∙ get_or-take c.args.count c.parts.result.now place part early ∙ ap (λ ps. get_or ps place part) c.parts.ensures.value in
    let next = after_part (parts_of c.args.sheet.now) place c.args.self.number part known read in
    (grind (arith, next), omega arith)
