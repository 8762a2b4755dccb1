-- What a writer over a buffer writes. Assumes nothing.
use Rattle.std.specs.Prelude.{◌≡◌, ℕ, ◌+◌, ◌-◌, ◌^◌, ◌≤◌, min, List, ◌++◌, length, take, drop}
use Rattle.sheet_writing.specs.declared.writer.Writer.{Writer}

-- these bytes were written at the place, which now is after them; where there is room for them, all other bytes stay
pub record Wrote (w : Writer) (bytes : List ℕ) (w' : Writer) : Type 0 where
  pub same_buffer : w'.buffer.ghost_name ≡ w.buffer.ghost_name
  pub same_room : length w'.buffer.now ≡ length w.buffer.now
  -- it stops at the greatest number there is
  pub place : w'.place ≡ min (w.place + length bytes) (2 ^ 64 - 1)
  pub before : w'.place ≤ length w.buffer.now → take w'.place w'.buffer.now ≡ take w.place w.buffer.now ++ bytes
  pub after : w'.place ≤ length w.buffer.now → drop w'.place w'.buffer.now ≡ drop w'.place w.buffer.now
