-- The ranking by points: the smaller sum of grades over the failed parts outranks. Assumes nothing.
use Rattle.std.specs.Prelude.{ℕ, zero, suc, ◌+◌, Bool, cond, List, length, nat_lt, slice_index}
use Rattle.states.specs.Sets.{has}

-- the grades, summed, of those of parts 1 to l that have failed in x, where part i has the grade gs[i - 1]
unfoldable pub points_upto : List ℕ → ℕ → ℕ → ℕ
points_upto gs zero x = 0
points_upto gs (suc l) x = points_upto gs l x + cond (has (suc l) x) (slice_index gs l) 0

-- the points of the state x on a sheet with these grades
abbrev pub points : List ℕ → ℕ → ℕ
points gs x = points_upto gs (length gs) x

-- x has the fewer points
abbrev pub fewer : List ℕ → ℕ → ℕ → Bool
fewer gs x y = nat_lt (points gs x) (points gs y)
