-- Each refusal's number in the table of refusals. Assumes nothing.
use Rattle.std.specs.Prelude.{ℕ, List, [], ◌∷◌}
use Rattle.calls.specs.declared.refusal.Full.{Full}
use Rattle.calls.specs.declared.refusal.Full.TheVariants.{TooManyWait}
use Rattle.calls.specs.declared.refusal.RunError.{RunError}
use Rattle.calls.specs.declared.refusal.RunError.TheVariants.{TargetTooHigh}

abbrev pub full_refusal : Full → List ℕ
full_refusal TooManyWait = 11 ∷ []

abbrev pub run_refusal : RunError → List ℕ
run_refusal TargetTooHigh = 12 ∷ []
