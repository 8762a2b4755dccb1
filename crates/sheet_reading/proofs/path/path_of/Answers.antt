use Rattle.std.proofs.Common.{◌≡◌, ◌+◌, ◌<◌, get_or, drop, sym, ap, ◌∙◌, arith}
use Rattle.std.proofs.lemmas.List.{at_drop_more}
use Rattle.sheet_reading.specs.Paths.{first_off, set_of}
use Rattle.sheet_reading.proofs.PathSteps.{on_sheet, place_is, set_grows}
use Rattle.sheet_reading.proofs.path.path_of.Goals as goal

pub loop-place-preserved : goal.loop-place-preserved
loop-place-preserved c =
    let ms = c.args.numbers.now in
    let i = c.loop-place.place in
    let m = get_or ms i 0 in
    let last = c.loop-place.last in
    let set = c.loop-place.set in
    let place = place_is m (omega (arith, c.if-number-parts.false, c.requires.parts)) in
    let above : last < m = omega (arith, c.if-number-last.false) in (
      (let e : i + 1 + 2 ≡ i + 2 + 1 = omega arith in ap (λ k. first_off c.args.parts m k (drop (i + 1) ms)) e) ∙ sym (on_sheet c.args.parts last (i + 2) m (drop (i + 1) ms) above c.if-number-parts.false) ∙ sym (at_drop_more (first_off c.args.parts last (i + 2)) ms i 0 c.loop-place-test.true) ∙ c.loop-place.invariant.0,
      omega (arith, c.loop-place.invariant.1, at_drop_more set_of ms i 0 c.loop-place-test.true, place),
      omega (arith, set_grows set last m c.loop-place.invariant.2 above, place),
      c.if-number-parts.false,
    )
