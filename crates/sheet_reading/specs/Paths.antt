-- The numbers of a path. Assumes nothing.
use Rattle.std.specs.Prelude.{◌≡◌, ℕ, suc, pred, ◌+◌, ◌^◌, cond, ◌&&◌, List, [], ◌∷◌, Ok, Err, Result, nat_le, nat_lt}
use Rattle.sheet_lines.specs.declared.fault.Fault.{Fault}
use Rattle.sheet_lines.specs.declared.fault.Refusal.TheVariants as refusal

-- the place, counted from i, of the first number that is not above the one before it, or not on a sheet of n parts; [] where none is
abbrev pub first_off : ℕ → ℕ → ℕ → List ℕ → List ℕ
first_off n last i [] = []
first_off n last i (m ∷ ms) = cond (nat_lt last m && nat_le m n) (first_off n m (suc i) ms) (i ∷ [])

-- the number of the set of these parts
abbrev pub set_of : List ℕ → ℕ
set_of [] = 0
set_of (m ∷ ms) = 2 ^ pred m + set_of ms

-- a path was made of the numbers of a line, or the one in this field, of which the first is field 2, is wrong
abbrev pub PathMade : ℕ → List ℕ → ℕ → Result ℕ Fault → Type 0
PathMade n ms line (Ok set) = (first_off n 0 2 ms ≡ []) × (set ≡ set_of ms)
PathMade n ms line (Err f) = (first_off n 0 2 ms ≡ f.field ∷ []) × (f ≡ record { refusal = refusal.BadPart; line = line; field = f.field })
