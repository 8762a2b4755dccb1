-- The exact ranking: the greater mass outranks. Assumes nothing.
use Rattle.std.specs.Prelude.{ℕ, Bool, List, nat_lt}
use Rattle.states.specs.Masses.{mass}

-- x has the greater mass
abbrev pub heavier : List ℕ → ℕ → ℕ → Bool
heavier qs x y = nat_lt (mass qs y) (mass qs x)
