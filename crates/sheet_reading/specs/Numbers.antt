-- The numbers of a line's fields. Assumes nothing.
use Rattle.std.specs.Prelude.{◌≡◌, ℕ, ◌+◌, ◌^◌, ◌<◌, ◌⊎◌, List, [], ◌∷◌, ◌++◌, length, slice_index}
use Rattle.std.specs.List.{AllByRecursion}
use Rattle.sheet_lines.specs.Cuts.{Free}
use Rattle.sheet_lines.specs.Numbers.{Writes}
use Rattle.sheet_lines.specs.Texts.{after_commas}
use Rattle.sheet_lines.specs.declared.fault.Fault.{Fault}
use Rattle.sheet_lines.specs.declared.fault.Refusal.TheVariants as refusal

-- numbers of at most eight digits
abbrev pub Short : List ℕ → Type 0
Short ns = AllByRecursion (λ n. n < 10 ^ 8) ns

-- xs, fields each after a comma, write the numbers ns
abbrev pub Written : List ℕ → List ℕ → Type 0
Written xs ns = (xs ≡ after_commas ns) × Short ns

-- of the fields xs, each after a comma, the one after the first i is no number, and these are
pub record IsBadNumber (xs : List ℕ) (i : ℕ) : Type 0 where
  pub numbers : List ℕ
  pub bad : List ℕ
  pub others : List ℕ
  pub bytes : xs ≡ after_commas numbers ++ (44 ∷ (bad ++ others))
  pub many : length numbers ≡ i
  pub short : Short numbers
  pub one_field : Free 44 bad × ((others ≡ []) ⊎ (slice_index others 0 ≡ 44))
  pub no_number : (n : ℕ) → Writes bad n → ⊥

-- the fault of a bad number, or want of memory
abbrev pub NumberFault : List ℕ → ℕ → Fault → Type 0
NumberFault xs line f =
    (f ≡ record { refusal = refusal.OutOfMemory; line = line; field = 0 })
    ⊎ ((i : ℕ) × IsBadNumber xs i × (f ≡ record { refusal = refusal.BadNumber; line = line; field = i + 2 }))
