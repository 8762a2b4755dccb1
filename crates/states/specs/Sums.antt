-- Sums over numbers. Assumes nothing.
use Rattle.std.specs.Prelude.{ℕ, zero, suc, ◌+◌, List, [], ◌∷◌}

-- the sum of h over all numbers below m
unfoldable pub sum_below : ℕ → (ℕ → ℕ) → ℕ
sum_below zero h = 0
sum_below (suc m) h = h m + sum_below m h

-- the sum of h over the members of a list
abbrev pub sum_of : (ℕ → ℕ) → List ℕ → ℕ
sum_of h [] = 0
sum_of h (x ∷ xs) = h x + sum_of h xs
