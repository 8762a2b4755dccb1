-- Numbers in the fields of a line. Assumes nothing.
use Rattle.std.specs.Prelude.{◌≡◌, ℕ, ◌^◌, ◌<◌, Bool, not, ◌&&◌, ◌||◌, List, length, Some, None, decimal, Option, ◌==◌, nat_le, slice_index}

-- the field writes the number n: 1 to 8 digits with no leading zero, save 0 itself
abbrev pub Writes : List ℕ → ℕ → Type 0
Writes field n = (field ≡ decimal n) × (n < 10 ^ 8)

-- the field was read: it writes the number answered, or none
abbrev pub ReadsNumber : List ℕ → Option ℕ → Type 0
ReadsNumber field (Some n) = Writes field n
ReadsNumber field None = (n : ℕ) → Writes field n → ⊥

-- 1 to 8 bytes, of which the first is no '0' unless it is the only one
abbrev pub of_length : List ℕ → Bool
of_length field = not (length field == 0) && (nat_le (length field) 8 && (not (slice_index field 0 == 48) || length field == 1))
