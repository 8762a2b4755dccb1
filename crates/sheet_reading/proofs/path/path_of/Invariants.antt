use Rattle.std.proofs.Common.{◌≡◌, ◌+◌, ◌^◌, ◌<◌, ◌≤◌, drop}
use Rattle.sheet_reading.specs.Paths.{first_off, set_of}
use Rattle.sheet_reading.proofs.path.path_of.Given as goal

-- what is left of the numbers, taken from here, gives what the whole gives
abbrev pub invariant-loop-place : goal.invariant-loop-place
invariant-loop-place l =
    (first_off l.parts l.last (l.place + 2) (drop l.place l.numbers) ≡ first_off l.parts 0 2 l.numbers)
    × (l.set + set_of (drop l.place l.numbers) ≡ set_of l.numbers) × (l.set < 2 ^ l.last) × (l.last ≤ l.parts)
