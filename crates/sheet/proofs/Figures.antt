-- The grades of a sheet's parts never fall, their failure figures never rise, and none is above one half. Assumes nothing.
use Rattle.std.proofs.Common.{◌≡◌, ℕ, zero, suc, ◌+◌, ◌-◌, ◌<◌, ◌≤◌, true, leb, List, [], ◌∷◌, map, length, get_or, not-suc-le-zero, arith, leb-true}
use Rattle.std.proofs.lemmas.Bool.{and_parts}
use Rattle.sheet.specs.Grades.{figure}
use Rattle.sheet.specs.Orders.{never_falls_from}
use Rattle.sheet.specs.Parts.{figure_of, figures_of, grades_of, parts_of, grade_of, count_of}
use Rattle.sheet.specs.declared.part.Part.{Part}
use Rattle.sheet.specs.declared.sealed.Sheet.{Sheet}
use Rattle.sheet.proofs.Table.{at_most_half, preferred}

each_half : (ps : List Part) (l : ℕ) → get_or (map figure_of ps) l 0 ≤ 500000
each_half [] l = omega arith
each_half (p ∷ ps) zero = at_most_half (grade_of p)
each_half (p ∷ ps) (suc l) = each_half ps l

pub figures_half : (s : Sheet) (l : ℕ) → get_or (figures_of s) l 0 ≤ 500000
figures_half s l = each_half (parts_of s) l

-- a higher grade has no greater figure
higher : (g d : ℕ) → g + d ≤ 39 → figure (g + d) ≤ figure g
higher g zero h = let e : g + zero ≡ g = omega arith in rw e (omega arith)
higher g (suc d) h =
    let e : g + suc d ≡ suc (g + d) = omega arith in
    rw e (omega (arith, preferred.falls (g + d) (omega arith), higher g d (omega arith)))

figure_falls : (g h : ℕ) → g ≤ h → h ≤ 39 → figure h ≤ figure g
figure_falls g h le known = let e : g + (h - g) ≡ h = omega arith in rw e at (higher g (h - g) (omega arith))

-- of two parts that stand side by side
neighbours : (low : ℕ) (ps : List Part) → never_falls_from low (map grade_of ps) ≡ true → (l : ℕ) → suc l < length ps
    → (get_or (map grade_of ps) l 0 ≤ get_or (map grade_of ps) (suc l) 0) × (get_or (map figure_of ps) (suc l) 0 ≤ get_or (map figure_of ps) l 0)
neighbours low [] t l h = absurd (not-suc-le-zero h)
neighbours low (p ∷ []) t l h = absurd (omega arith)
neighbours low (p ∷ (q ∷ ps)) t zero h =
    let rest = (and_parts (leb low (grade_of p)) (never_falls_from (grade_of p) (map grade_of (q ∷ ps))) t).1 in
    let up = leb-true _ _ (and_parts (leb (grade_of p) (grade_of q)) (never_falls_from (grade_of q) (map grade_of ps)) rest).0 in
    (up, figure_falls (grade_of p) (grade_of q) up q.grade.known)
neighbours low (p ∷ (q ∷ ps)) t (suc l) h =
    neighbours (grade_of p) (q ∷ ps) (and_parts (leb low (grade_of p)) (never_falls_from (grade_of p) (map grade_of (q ∷ ps))) t).1 l (omega arith)

pub grades_rise : (s : Sheet) (l : ℕ) → suc l < count_of s → get_or (grades_of s) l 0 ≤ get_or (grades_of s) (suc l) 0
grades_rise s l h = (neighbours 0 (parts_of s) s.ordered l h).0

pub figures_fall : (s : Sheet) (l : ℕ) → suc l < count_of s → get_or (figures_of s) (suc l) 0 ≤ get_or (figures_of s) l 0
figures_fall s l h = (neighbours 0 (parts_of s) s.ordered l h).1
