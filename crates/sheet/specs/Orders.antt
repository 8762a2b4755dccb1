-- Numbers that never fall from one to the next. Assumes nothing.
use Rattle.std.specs.Prelude.{ℕ, Bool, true, ◌&&◌, List, [], ◌∷◌, nat_le}

-- from low on, no number is below the one before it
abbrev pub never_falls_from : ℕ → List ℕ → Bool
never_falls_from low [] = true
never_falls_from low (x ∷ xs) = nat_le low x && never_falls_from x xs

abbrev pub never_falls : List ℕ → Bool
never_falls xs = never_falls_from 0 xs

-- the last number; d where there is none
abbrev pub last_or : ℕ → List ℕ → ℕ
last_or d [] = d
last_or d (x ∷ xs) = last_or x xs
