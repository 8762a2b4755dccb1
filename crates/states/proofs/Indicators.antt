-- Sums of the indicator of one state. Assumes nothing.
use Rattle.std.proofs.Common.{◌≡◌, ℕ, ◌^◌, ◌<◌, ◌≤◌, Bool, true, false, cond, eqb, List, [], ◌∷◌, refl, ap, ◌∙◌, inl, inr, ⊎_elim, arith, eq-eqb, ne_eqb}
use Rattle.std.proofs.lemmas.Bool.{cases_lt, cond-true, cond-false}
use Rattle.states.specs.Lists.{In}
use Rattle.states.specs.Sums.{sum_below, sum_of}
use Rattle.states.specs.Trees.{in_cone, in_tree, cone_sum, tree_sum}
use Rattle.states.proofs.Sums.{sum_one}

-- 1 at y, and 0 elsewhere
abbrev pub only : ℕ → ℕ → ℕ
only y x = cond (eqb x y) 1 0

pub only_itself : (y : ℕ) → only y y ≡ 1
only_itself y = cond-true (eqb y y) 1 0 (eq-eqb y y refl)

only_other : (y x : ℕ) → (x ≡ y → ⊥) → only y x ≡ 0
only_other y x ne = cond-false (eqb x y) 1 0 (ne_eqb x y ne)

-- what passes a test, of one state
one_passes : (n y : ℕ) (test : ℕ → Bool) → y < 2 ^ n → sum_below (2 ^ n) (λ x. cond (test x) (only y x) 0) ≡ cond (test y) 1 0
one_passes n y test h =
    sum_one (2 ^ n) y (λ x. cond (test x) (only y x) 0) h (λ x l ne. nothing (test x) (only y x) (only_other y x ne))
    ∙ ap (λ k. cond (test y) k 0) (only_itself y)
  where
    nothing : (b : Bool) (k : ℕ) → k ≡ 0 → cond b k 0 ≡ 0
    nothing true k e = e
    nothing false k e = refl

pub only_all : (n y : ℕ) → y < 2 ^ n → sum_below (2 ^ n) (only y) ≡ 1
only_all n y h = one_passes n y (λ x. true) h

pub only_tree : (n x y : ℕ) → y < 2 ^ n → tree_sum n (only y) x ≡ cond (in_tree n x y) 1 0
unfolding tree_sum
only_tree n x y h = one_passes n y (in_tree n x) h

pub only_cone : (n x y : ℕ) → y < 2 ^ n → cone_sum n (only y) x ≡ cond (in_cone n x y) 1 0
unfolding cone_sum
only_cone n x y h = one_passes n y (in_cone n x) h

-- a sum that is not 0 has a member that is not
pub some_member : (f : ℕ → ℕ) (xs : List ℕ) → 1 ≤ sum_of f xs → (x : ℕ) × In x xs × (1 ≤ f x)
some_member f [] h = absurd (omega arith)
some_member f (x ∷ xs) h =
    ⊎_elim (λ (e : f x < 1). let rest = some_member f xs (omega arith) in (rest.0, inr rest.1, rest.2)) (λ l. (x, inl refl, l)) (cases_lt (f x) 1)

-- and is at least each member's part
pub member_le : (f : ℕ → ℕ) (xs : List ℕ) (x : ℕ) → In x xs → f x ≤ sum_of f xs
member_le f [] x i = absurd i
member_le f (z ∷ xs) x (inl e) = omega (arith, ap f e)
member_le f (z ∷ xs) x (inr i) = omega (arith, member_le f xs x i)

-- a test that counts
pub counted : (b : Bool) → 1 ≤ cond b 1 0 → b ≡ true
counted true h = refl
counted false h = absurd (omega arith)
