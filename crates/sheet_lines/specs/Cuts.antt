-- Lists of bytes cut at a mark. Assumes nothing.
use Rattle.std.specs.Prelude.{◌≡◌, ℕ, ◌<◌, count_by, List, ◌∷◌, ◌++◌, length, ◌==◌, ◌≢◌, slice_index}

-- the mark does not stand in the list
abbrev pub Free : ℕ → List ℕ → Type 0
Free mark xs = (k : ℕ) → k < length xs → slice_index xs k ≢ mark

-- xs is front, the mark and rest, and front is free of the mark
abbrev pub Cut : ℕ → List ℕ → List ℕ → List ℕ → Type 0
Cut mark xs front rest = (xs ≡ front ++ mark ∷ rest) × Free mark front

-- how often the mark stands in the list
abbrev pub marks : ℕ → List ℕ → ℕ
marks mark xs = count_by (λ x. x == mark) xs
