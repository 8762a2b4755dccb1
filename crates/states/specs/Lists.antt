-- Lists of numbers as collections: members, different members, and equality whatever the order. Assumes nothing.
use Rattle.std.specs.Prelude.{◌≡◌, ℕ, ◌⊎◌, List, [], ◌∷◌}
use Rattle.std.specs.List.{AllByRecursion}
use Rattle.states.specs.Sums.{sum_of}

-- y is in the list
abbrev pub In : ℕ → List ℕ → Type 0
In y [] = ⊥
In y (x ∷ xs) = (x ≡ y) ⊎ In y xs

-- no member stands twice
abbrev pub Different : List ℕ → Type 0
Different [] = Unit {0}
Different (x ∷ xs) = (In x xs → ⊥) × Different xs

-- each member is so related to all later ones
abbrev pub Pairwise : (ℕ → ℕ → Type 0) → List ℕ → Type 0
Pairwise R [] = Unit {0}
Pairwise R (x ∷ xs) = AllByRecursion (R x) xs × Pairwise R xs

-- equal as collections, whatever the order: every function has the same sum over both
abbrev pub Same : List ℕ → List ℕ → Type 0
Same xs ys = (f : ℕ → ℕ) → sum_of f xs ≡ sum_of f ys
