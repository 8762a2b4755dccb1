-- The two steps from a state to a next one, and the share of a state. A sheet of n parts reads the lowest n places of a state. Assumes nothing.
use Rattle.std.specs.Prelude.{◌≡◌, ℕ, zero, suc, ◌%◌, ◌^◌, ◌<◌, Bool, cond, ◌&&◌, ◌≢◌, ◌⊎◌, List, [], ◌∷◌, length, ◌==◌, nat_lt}
use Rattle.states.specs.Masses.{after, mass}
use Rattle.states.specs.Sets.{has, with_part, without_part}
use Rattle.states.specs.Sums.{sum_below}

-- what a sheet of n parts reads of a state
abbrev pub low : ℕ → ℕ → ℕ
low n x = x % 2 ^ n

-- x and y have the same of parts 1 to l
abbrev pub agrees : ℕ → ℕ → ℕ → Bool
agrees l x y = low l x == low l y

-- the greatest of parts 1 to n that is in x; 0 where none is
unfoldable pub top : ℕ → ℕ → ℕ
top zero x = 0
top (suc n) x = cond (has (suc n) x) (suc n) (top n x)

-- add: x with the part after its greatest as well, where there is such a part
abbrev pub add_step : ℕ → ℕ → List ℕ
add_step n x = cond (nat_lt (top n x) n) (with_part (suc (top n x)) (low n x) ∷ []) []

-- move: x with its greatest part replaced by the one after it, where there are such parts
abbrev pub move_step : ℕ → ℕ → List ℕ
move_step n x = cond (nat_lt 0 (top n x) && nat_lt (top n x) n) (with_part (suc (top n x)) (without_part (top n x) (low n x)) ∷ []) []

-- a step from x leads to y
abbrev pub Leads : ℕ → ℕ → ℕ → Type 0
Leads n x y = (add_step n x ≡ y ∷ []) ⊎ (move_step n x ≡ y ∷ [])

-- of the states of a sheet of n parts, x is the one from which y comes by a step
pub record Parent (n y x : ℕ) : Type 0 where
  pub on_sheet : x < 2 ^ n
  pub other : x ≢ y
  pub leads : Leads n x y
  pub only : (z : ℕ) → z < 2 ^ n → Leads n z y → z ≡ x

-- what is left of the total after the greatest part of x
abbrev pub share : List ℕ → ℕ → ℕ
share qs x = after qs (top (length qs) x) x

-- the masses, summed, of all states of the sheet that agree with x up to part l
unfoldable pub agreeing_masses : List ℕ → ℕ → ℕ → ℕ
agreeing_masses qs l x = sum_below (2 ^ length qs) (λ y. cond (agrees l x y) (mass qs y) 0)
