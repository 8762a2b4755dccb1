-- Sets of parts by their numbers: a set's number sums 2 ^ (i - 1) over its parts i. Assumes nothing.
use Rattle.std.specs.Prelude.{◌≡◌, ℕ, zero, suc, pred, ◌+◌, ◌-◌, ◌/◌, ◌%◌, ◌^◌, Bool, cond, ◌==◌, bit_and, bit_or}

-- the binary place k of x, counted from 0, holds a 1
unfoldable pub bit : ℕ → ℕ → Bool
bit k x = x / 2 ^ k % 2 == 1

-- part i is in the set x
abbrev pub has : ℕ → ℕ → Bool
has i x = bit (pred i) x

-- the set x with part i as well
unfoldable pub with_part : ℕ → ℕ → ℕ
with_part i x = cond (has i x) x (x + 2 ^ pred i)

-- the set x without part i
unfoldable pub without_part : ℕ → ℕ → ℕ
without_part i x = cond (has i x) (x - 2 ^ pred i) x

-- the parts of x and those of y
abbrev pub union : ℕ → ℕ → ℕ
union x y = bit_or x y

-- every part of x is in y
abbrev pub Within : ℕ → ℕ → Type 0
Within x y = bit_and x y ≡ x

abbrev pub within : ℕ → ℕ → Bool
within x y = bit_and x y == x

-- no part of x is in y
abbrev pub disjoint : ℕ → ℕ → Bool
disjoint x y = bit_and x y == 0

-- the parts of x that are not in y
abbrev pub difference : ℕ → ℕ → ℕ
difference x y = x - bit_and x y

-- how many of parts 1 to n are in x
unfoldable pub size : ℕ → ℕ → ℕ
size zero x = 0
size (suc n) x = cond (has (suc n) x) 1 0 + size n x
