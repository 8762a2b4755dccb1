-- All states of a sheet of n parts hang in one tree, in which the steps add and move lead on from each state. Assumes nothing.
use Rattle.std.specs.Prelude.{ℕ, pred, ◌/◌, ◌^◌, Bool, cond, ◌&&◌, nat_le}
use Rattle.states.specs.Steps.{agrees, top}
use Rattle.states.specs.Sums.{sum_below}

-- y agrees with x up to the greatest part of x: it has these parts and perhaps later ones
abbrev pub in_cone : ℕ → ℕ → ℕ → Bool
in_cone n x y = agrees (top n x) x y

-- y hangs under x, or is x: it agrees with x up to the part before its greatest, and has that or a later one
abbrev pub in_tree : ℕ → ℕ → ℕ → Bool
in_tree n x y = agrees (pred (top n x)) x y && nat_le (2 ^ top n x / 2) y

-- the sum of h over the states of the sheet in the cone of x
unfoldable pub cone_sum : ℕ → (ℕ → ℕ) → ℕ → ℕ
cone_sum n h x = sum_below (2 ^ n) (λ y. cond (in_cone n x y) (h y) 0)

-- the sum of h over the states of the sheet that hang under x, and x
unfoldable pub tree_sum : ℕ → (ℕ → ℕ) → ℕ → ℕ
tree_sum n h x = sum_below (2 ^ n) (λ y. cond (in_tree n x y) (h y) 0)
