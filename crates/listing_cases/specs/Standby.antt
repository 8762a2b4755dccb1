-- A unit with a spare. Assumes nothing.
use Rattle.std.specs.Prelude.{ℕ, Bool, not, ◌&&◌}
use Rattle.states.specs.Sets.{has}

-- the station works unless both have failed
abbrev pub standby_works : ℕ → ℕ → ℕ → Bool
standby_works unit spare x = not (has unit x && has spare x)
