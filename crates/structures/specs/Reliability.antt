-- The reliability of a station: the masses of all states in which it works, summed. Assumes nothing.
use Rattle.std.specs.Prelude.{ℕ, ◌^◌, Bool, cond, List, length}
use Rattle.states.specs.Masses.{mass}
use Rattle.states.specs.Steps.{low}
use Rattle.states.specs.Sums.{sum_below}

-- whether the station works in the state x on a sheet of n parts: a part that is not on the sheet counts as sound
abbrev pub station_works : (ℕ → Bool) → ℕ → ℕ → Bool
station_works works n x = works (low n x)

-- a state's mass, where the station works in it
abbrev pub working_mass : (ℕ → Bool) → List ℕ → ℕ → ℕ
working_mass works qs x = cond (station_works works (length qs) x) (mass qs x) 0

-- a state's mass, where the station fails in it
abbrev pub failing_mass : (ℕ → Bool) → List ℕ → ℕ → ℕ
failing_mass works qs x = cond (station_works works (length qs) x) 0 (mass qs x)

-- the masses of all states of the sheet in which the station works, summed: its reliability, out of the total
abbrev pub working_masses : (ℕ → Bool) → List ℕ → ℕ
working_masses works qs = sum_below (2 ^ length qs) (working_mass works qs)

-- the masses of all states of the sheet in which it fails, summed
abbrev pub failing_masses : (ℕ → Bool) → List ℕ → ℕ
failing_masses works qs = sum_below (2 ^ length qs) (failing_mass works qs)
