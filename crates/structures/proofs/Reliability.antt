-- The masses of working and of failing states together. Assumes nothing.
use Rattle.std.proofs.Common.{◌≡◌, ℕ, ◌+◌, Bool, true, false, cond, List, length, sym, ◌∙◌, arith}
use Rattle.states.specs.Masses.{mass}
use Rattle.states.specs.Sums.{sum_below}
use Rattle.states.proofs.Sums.{sum_same, sum_add}
use Rattle.structures.specs.Reliability.{station_works, working_mass, failing_mass}

-- a state works or fails
pub either : (works : ℕ → Bool) (qs : List ℕ) (x : ℕ) → working_mass works qs x + failing_mass works qs x ≡ mass qs x
either works qs x = go (station_works works (length qs) x)
  where
    go : (b : Bool) → cond b (mass qs x) 0 + cond b 0 (mass qs x) ≡ mass qs x
    go true = omega arith
    go false = omega arith

pub both_sums : (works : ℕ → Bool) (qs : List ℕ) (m : ℕ) → sum_below m (working_mass works qs) + sum_below m (failing_mass works qs) ≡ sum_below m (mass qs)
both_sums works qs m =
    sym (sum_add m (working_mass works qs) (failing_mass works qs)) ∙ sum_same m _ (mass qs) (λ x h. either works qs x)
