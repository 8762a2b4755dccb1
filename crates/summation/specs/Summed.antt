-- What summing over all states answers. Assumes nothing.
use Rattle.std.specs.Prelude.{◌≡◌, ℕ, ◌+◌, ◌<◌, ◌≤◌, Bool, Ok, Err, Result}
use Rattle.sheet.specs.Parts.{figures_of, count_of}
use Rattle.sheet.specs.declared.sealed.Sheet.{Sheet}
use Rattle.states.specs.Masses.{total}
use Rattle.structures.specs.Reliability.{working_masses, failing_masses}
use Rattle.summation.specs.declared.sums.Sums.{Sums}
use Rattle.summation.specs.declared.sums.SumError.{SumError}
use Rattle.summation.specs.declared.sums.SumError.TheVariants.{TooManyParts}

-- the two sums over all states of the sheet, where the station works as said; together they are the total
pub record SumsOf (works : ℕ → Bool) (s : Sheet) (sums : Sums) : Type 0 where
  pub working : sums.working ≡ working_masses works (figures_of s)
  pub failing : sums.failing ≡ failing_masses works (figures_of s)
  pub together : sums.working + sums.failing ≡ total

-- the sums for at most 20 parts, and a refusal above
abbrev pub Summed : (ℕ → Bool) → Sheet → Result Sums SumError → Type 0
Summed works s (Ok sums) = (count_of s ≤ 20) × SumsOf works s sums
Summed works s (Err TooManyParts) = 20 < count_of s
