-- The rules of the table of figures, by one test at each of its entries that antt computes. Assumes nothing.
use Rattle.std.proofs.Common.{◌≡◌, ℕ, zero, suc, ◌+◌, ◌*◌, ◌<◌, ◌≤◌, Bool, true, ◌&&◌, ◌||◌, eqb, ltb, leb, List, [], ◌∷◌, length, get_or, sym, refl, ◌∙◌, subst, ⊎_elim, le_of_suc-le-suc, not-suc-le-zero, add-zero, add-suc, suc-add, zero-add, arith, ltb-true, eqb-true, leb-true}
use Rattle.std.proofs.lemmas.List.{get_or_past}
use Rattle.std.proofs.lemmas.Bool.{and_parts, or_cases, cases_lt}
use Rattle.sheet.specs.Grades.{table, figure, Preferred}

-- the test f passes at each entry of the list and its place, counted from i
abbrev every : (ℕ → ℕ → Bool) → ℕ → List ℕ → Bool
every f i [] = true
every f i (x ∷ xs) = f i x && every f (suc i) xs

from : (f : ℕ → ℕ → Bool) (xs : List ℕ) (i : ℕ) → every f i xs ≡ true → (k : ℕ) → k < length xs → f (i + k) (get_or xs k 0) ≡ true
from f [] i t k h = absurd (not-suc-le-zero h)
from f (x ∷ xs) i t zero h = subst (λ (m : ℕ). f m x ≡ true) (sym (add-zero i)) (and_parts (f i x) (every f (suc i) xs) t).0
from f (x ∷ xs) i t (suc k) h =
    subst (λ (m : ℕ). f m (get_or xs k 0) ≡ true) (suc-add i k ∙ sym (add-suc i k))
    (from f xs (suc i) (and_parts (f i x) (every f (suc i) xs) t).1 k (le_of_suc-le-suc h))

-- what is asked of the figure x of grade g
abbrev right : ℕ → ℕ → Bool
right g x =
    (leb 39 g || ltb (get_or table (suc g) 0) x) && ((leb 30 g || eqb (10 * get_or table (g + 10) 0) x) && (leb x 500000 && ltb 0 x))

record Right (g x : ℕ) : Type 0 where
  falls : g < 39 → get_or table (suc g) 0 < x
  tenths : g < 30 → 10 * get_or table (g + 10) 0 ≡ x
  at_most_half : x ≤ 500000
  positive : 0 < x

read : (g x : ℕ) → right g x ≡ true → Right g x
read g x t =
    let a = and_parts (leb 39 g || ltb (get_or table (suc g) 0) x) _ t in
    let b = and_parts (leb 30 g || eqb (10 * get_or table (g + 10) 0) x) _ a.1 in
    let d = and_parts (leb x 500000) (ltb 0 x) b.1 in
    record {
      falls = λ h. ⊎_elim (λ (e : leb 39 g ≡ true). absurd (omega (arith, leb-true 39 g e))) (λ e. ltb-true _ _ e) (or_cases _ _ a.0);
      tenths = λ h. ⊎_elim (λ (e : leb 30 g ≡ true). absurd (omega (arith, leb-true 30 g e))) (λ e. eqb-true _ _ e) (or_cases _ _ b.0);
      at_most_half = leb-true _ _ d.0;
      positive = ltb-true _ _ d.1;
    }

at : (g : ℕ) → g < 40 → Right g (get_or table g 0)
unfolding table
at g h = read g (get_or table g 0) (subst (λ (m : ℕ). right m (get_or table g 0) ≡ true) (zero-add g) (from right table 0 refl g h))

pub at_most_half : (g : ℕ) → figure g ≤ 500000
unfolding figure table
at_most_half g = ⊎_elim (λ h. (at g h).at_most_half) (λ h. omega (arith, get_or_past table g 0 h)) (cases_lt g 40)

pub preferred : Preferred figure
unfolding figure
preferred = record {
  falls = λ g h. (at g (omega arith)).falls h;
  tenths = λ g h. (at g (omega arith)).tenths h;
  at_most_half = at_most_half;
  positive = λ g h. (at g h).positive;
}
