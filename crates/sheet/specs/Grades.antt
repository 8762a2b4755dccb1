-- Grades 0 to 39 and the failure figures that they stand for. Assumes nothing.
use Rattle.std.specs.Prelude.{◌≡◌, ℕ, suc, ◌+◌, ◌*◌, ◌<◌, ◌≤◌, List, [], ◌∷◌, slice_index}

-- failure probabilities in parts per million, by grade: preferred numbers of the series R10 (ISO 3)
unfoldable pub table : List ℕ
table =
    500000 ∷ 400000 ∷ 315000 ∷ 250000 ∷ 200000 ∷ 160000 ∷ 125000 ∷ 100000 ∷ 80000 ∷ 63000
    ∷ 50000 ∷ 40000 ∷ 31500 ∷ 25000 ∷ 20000 ∷ 16000 ∷ 12500 ∷ 10000 ∷ 8000 ∷ 6300
    ∷ 5000 ∷ 4000 ∷ 3150 ∷ 2500 ∷ 2000 ∷ 1600 ∷ 1250 ∷ 1000 ∷ 800 ∷ 630
    ∷ 500 ∷ 400 ∷ 315 ∷ 250 ∷ 200 ∷ 160 ∷ 125 ∷ 100 ∷ 80 ∷ 63
    ∷ []

-- the failure figure of a grade
unfoldable pub figure : ℕ → ℕ
figure g = slice_index table g

-- what makes a table of figures by grade one of preferred numbers
pub record Preferred (q : ℕ → ℕ) : Type 0 where
  -- each is smaller than the one before
  pub falls : (g : ℕ) → g < 39 → q (suc g) < q g
  -- each is a tenth of the one ten grades before
  pub tenths : (g : ℕ) → g < 30 → 10 * q (g + 10) ≡ q g
  -- none is above one half
  pub at_most_half : (g : ℕ) → q g ≤ 500000
  -- none is nothing
  pub positive : (g : ℕ) → g < 40 → 0 < q g
