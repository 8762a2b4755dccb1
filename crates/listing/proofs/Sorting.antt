-- Lists of numbers each of which is so related to all later ones. Assumes nothing.
use Rattle.std.proofs.Common.{ℕ, zero, suc, ◌<◌, ◌≤◌, List, [], ◌∷◌, ◌++◌, length, get_or, take, drop, subst, refl, ap, inl, inr, ⊎_elim, arith, take-append-drop, le_of_suc-le-suc, not-suc-le-zero}
use Rattle.std.specs.List.{insert, AllByRecursion}
use Rattle.states.specs.Lists.{In, Pairwise, Same}
use Rattle.states.specs.Sums.{sum_of}
use Rattle.states.proofs.Lists.{in_append_left, in_append_right, in_append_cases, all_in, all_from_in, sum_of_append}

pub in_front : (zs : List ℕ) (i y : ℕ) → In y (take i zs) → In y zs
in_front zs i y j = subst (λ v. In y v) (take-append-drop i zs) (in_append_left (take i zs) (drop i zs) y j)

pub in_at : (zs : List ℕ) (i : ℕ) → i < length zs → In (get_or zs i 0) zs
in_at [] i h = absurd (not-suc-le-zero h)
in_at (z ∷ zs) zero h = inl refl
in_at (z ∷ zs) (suc i) h = inr (in_at zs i (le_of_suc-le-suc h))

-- what holds at each place of the front, or of the rest
pub all_take : (P : ℕ → Type 0) (zs : List ℕ) (i : ℕ) → ((k : ℕ) → k < i → k < length zs → P (get_or zs k 0)) → AllByRecursion P (take i zs)
all_take P zs zero f = tt
all_take P [] (suc i) f = tt
all_take P (z ∷ zs) (suc i) f = (f 0 (omega arith) (omega arith), all_take P zs i (λ k h w. f (suc k) (omega arith) (omega arith)))

pub all_drop : (P : ℕ → Type 0) (zs : List ℕ) (i : ℕ) → ((k : ℕ) → i ≤ k → k < length zs → P (get_or zs k 0)) → AllByRecursion P (drop i zs)
all_drop P [] zero f = tt
all_drop P [] (suc i) f = tt
all_drop P (z ∷ zs) zero f = (f 0 (omega arith) (omega arith), all_drop P zs zero (λ k h w. f (suc k) (omega arith) (omega arith)))
all_drop P (z ∷ zs) (suc i) f = all_drop P zs i (λ k h w. f (suc k) (omega arith) (omega arith))

module _ (R : ℕ → ℕ → Type 0) where
  pub pairwise_take : (zs : List ℕ) (i : ℕ) → Pairwise R zs → Pairwise R (take i zs)
  pairwise_take zs zero p = tt
  pairwise_take [] (suc i) p = tt
  pairwise_take (z ∷ zs) (suc i) p = (all_from_in (R z) (take i zs) (λ y j. all_in (R z) zs y p.0 (in_front zs i y j)), pairwise_take zs i p.1)

  pub pairwise_at : (zs : List ℕ) (i j : ℕ) → Pairwise R zs → i < j → j < length zs → R (get_or zs i 0) (get_or zs j 0)
  pairwise_at [] i j p h w = absurd (not-suc-le-zero w)
  pairwise_at (z ∷ zs) i zero p h w = absurd (not-suc-le-zero h)
  pairwise_at (z ∷ zs) zero (suc j) p h w = all_in (R z) zs (get_or zs j 0) p.0 (in_at zs j (le_of_suc-le-suc w))
  pairwise_at (z ∷ zs) (suc i) (suc j) p h w = pairwise_at zs i j p.1 (le_of_suc-le-suc h) (le_of_suc-le-suc w)

  pub pairwise_last : (zs : List ℕ) (z y : ℕ) → Pairwise R (zs ++ z ∷ []) → In y zs → R y z
  pairwise_last [] z y p i = absurd i
  pairwise_last (x ∷ xs) z y p (inl e) = subst (λ v. R v z) e (all_in (R x) (xs ++ z ∷ []) z p.0 (in_append_right xs (z ∷ []) z (inl refl)))
  pairwise_last (x ∷ xs) z y p (inr i) = pairwise_last xs z y p.1 i

  -- a member put in between
  pub pairwise_insert : (xs ys : List ℕ) (x : ℕ) → Pairwise R (xs ++ ys) → AllByRecursion (λ y. R y x) xs → AllByRecursion (R x) ys → Pairwise R (xs ++ x ∷ ys)
  pairwise_insert [] ys x p before after = (after, p)
  pairwise_insert (z ∷ zs) ys x p before after = (
    all_from_in (R z) (zs ++ x ∷ ys) (λ y i. ⊎_elim (λ j. all_in (R z) (zs ++ ys) y p.0 (in_append_left zs ys y j)) (other y) (in_append_cases zs (x ∷ ys) y i)),
    pairwise_insert zs ys x p.1 before.1 after,
  )
    where
      other : (y : ℕ) → In y (x ∷ ys) → R z y
      other y (inl e) = subst (R z) e before.0
      other y (inr j) = all_in (R z) (zs ++ ys) y p.0 (in_append_right zs ys y j)

-- inserting changes the collection by what is inserted
pub same_inserted : (xs : List ℕ) (i x : ℕ) → Same (insert xs i x) (x ∷ xs)
same_inserted xs i x f =
    omega (arith, sum_of_append f (take i xs) (x ∷ drop i xs), sum_of_append f (take i xs) (drop i xs), ap (sum_of f) (take-append-drop i xs))
