use Rattle.std.proofs.Common.{◌≡◌, true, sym, ap, ◌∙◌}
use Rattle.std.specs.Result.{is_ok}
use Rattle.sheet_reading.proofs.NumberSteps.{one_number}
use Rattle.sheet_reading.proofs.numbers.path_numbers.Goals as goal

pub loop-field-preserved : goal.loop-field-preserved
loop-field-preserved c =
    let ok : is_ok c.push.result ≡ true = sym c.map_err.ensures.variant ∙ ap is_ok c.in_ok-map_err.was in
    let read = c.in-Some.ensures in
    (tt, tt, rw (c.push.ensures.items, ok) (one_number _ _ _ _ _ c.loop-field.invariant.2 read.steps.0 c.in_ok-number.number c.in_ok-number.ensures))
