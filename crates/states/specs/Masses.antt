-- The mass of a state: what is left of the total after all parts. Assumes nothing.
use Rattle.std.specs.Prelude.{ℕ, zero, suc, ◌-◌, ◌*◌, ◌/◌, ◌^◌, Bool, cond, List, length, slice_index}
use Rattle.states.specs.Sets.{has}

-- the masses of all states of a sheet sum to this
abbrev pub total : ℕ
total = 10 ^ 18

-- of s, what falls to the failure of a part whose failure figure is q parts per million, rounded down
abbrev pub fall : ℕ → ℕ → ℕ
fall q s = s * q / 1000000

-- what is left of s after a part of figure q that has failed, or is sound
abbrev pub goes_on : ℕ → ℕ → Bool → ℕ
goes_on q s failed = cond failed (fall q s) (s - fall q s)

-- what is left of the total after parts 1 to l, in the state x, where part i has the figure qs[i - 1]
unfoldable pub after : List ℕ → ℕ → ℕ → ℕ
after qs zero x = total
after qs (suc l) x = goes_on (slice_index qs l) (after qs l x) (has (suc l) x)

-- the mass of the state x on a sheet with the figures qs
abbrev pub mass : List ℕ → ℕ → ℕ
mass qs x = after qs (length qs) x
