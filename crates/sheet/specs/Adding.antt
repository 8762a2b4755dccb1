-- What the making of a part number, and the adding of a part to a draft, answer. Assumes nothing.
use Rattle.std.specs.Prelude.{◌≡◌, ℕ, suc, ◌<◌, ◌≤◌, cond, ◌||◌, List, [], ◌∷◌, ◌++◌, map, length, Ok, Err, Result, ◌==◌, nat_le, nat_lt}
use Rattle.sheet.specs.Orders.{last_or}
use Rattle.sheet.specs.Parts.{grade_of}
use Rattle.sheet.specs.Refusals.{part_number_refusal, add_refusal}
use Rattle.sheet.specs.declared.part.Part.{Part}
use Rattle.sheet.specs.declared.part_number.PartNumber.{PartNumber}
use Rattle.sheet.specs.declared.refusal.PartNumberError.{PartNumberError}
use Rattle.sheet.specs.declared.refusal.AddError.{AddError}

-- the refusal that a number meets where a part number is made of it; [] for 1 to 40
abbrev pub numbering_refused : ℕ → List ℕ
numbering_refused n = cond (n == 0 || nat_lt 40 n) (1 ∷ []) []

-- a part number is made of n, or refused
abbrev pub Numbered : ℕ → Result PartNumber PartNumberError → Type 0
Numbered n (Ok i) = (numbering_refused n ≡ []) × (i.number ≡ n)
Numbered n (Err e) = part_number_refusal e ≡ numbering_refused n

-- the refusal that a part of this grade and price meets at these parts; [] where it is taken
abbrev pub adding_refused : List Part → ℕ → ℕ → List ℕ
adding_refused ps grade cents =
    cond (nat_le 40 (length ps)) (5 ∷ [])
    (cond (nat_lt 39 grade) (2 ∷ [])
    (cond (nat_lt 99999999 cents) (3 ∷ [])
    (cond (nat_lt grade (last_or 0 (map grade_of ps))) (4 ∷ []) [])))

-- p is a part of this grade and price that the parts ps may take, or it is refused
abbrev pub Admitted : List Part → ℕ → ℕ → Result Part AddError → Type 0
Admitted ps grade cents (Ok p) =
    (adding_refused ps grade cents ≡ [])
    × (grade_of p ≡ grade)
    × (p.cents ≡ cents)
    × (length ps < 40)
    × (last_or 0 (map grade_of ps) ≤ grade_of p)
Admitted ps grade cents (Err e) = add_refusal e ≡ adding_refused ps grade cents

-- a part of this grade and price comes after the parts ps, which then are ps', and has the next number;
-- or it is refused, for its own fault or for want of memory, and the parts stay
abbrev pub Added : List Part → ℕ → ℕ → Result PartNumber AddError → List Part → Type 0
Added ps grade cents (Ok i) ps' =
    (adding_refused ps grade cents ≡ [])
    × (i.number ≡ suc (length ps))
    × ((p : Part) × (grade_of p ≡ grade) × (p.cents ≡ cents) × (ps' ≡ ps ++ p ∷ []))
Added ps grade cents (Err e) ps' = (add_refusal e ≡ adding_refused ps grade cents) × (ps' ≡ ps)
