-- What each structure and layer means: whether the station works in the state x. Assumes nothing.
use Rattle.std.specs.Prelude.{◌≡◌, ℕ, zero, suc, ◌+◌, ◌^◌, ◌<◌, Bool, true, cond, not, ◌&&◌, ◌||◌, List, nat_le}
use Rattle.std.specs.List.{list_any}
use Rattle.states.specs.Sets.{has, with_part, without_part, disjoint, Within}
use Rattle.structures.specs.declared.given.Condition.{Condition}
use Rattle.structures.specs.declared.given.Condition.TheVariants.{Sound, Failed}

-- the law of structures: every state contained in a working state works
abbrev pub KeepsContained : (ℕ → Bool) → Type 0
KeepsContained works = (x y : ℕ) → y < 2 ^ 40 → Within x y → works y ≡ true → works x ≡ true

-- path list: all parts of some path are sound
abbrev pub path_list_works : List ℕ → ℕ → Bool
path_list_works paths x = list_any (λ path. disjoint path x) paths

-- how many of parts 1 to n are in the set and sound in x
unfoldable pub sound_parts : ℕ → ℕ → ℕ → ℕ
sound_parts zero set x = 0
sound_parts (suc n) set x = cond (has (suc n) set && not (has (suc n) x)) 1 0 + sound_parts n set x

-- quorum: at least so many parts of the set are sound
abbrev pub quorum_works : ℕ → ℕ → ℕ → Bool
quorum_works count set x = nat_le count (sound_parts 40 set x)

-- feed: its part is sound and the one below works
abbrev pub feed_works : ℕ → (ℕ → Bool) → ℕ → Bool
feed_works part below x = not (has part x) && below x

-- bypass: its part is sound or the one below works
abbrev pub bypass_works : ℕ → (ℕ → Bool) → ℕ → Bool
bypass_works part below x = not (has part x) || below x

-- the state x with a part made sound, or failed
abbrev pub given_state : Condition → ℕ → ℕ → ℕ
given_state Sound part x = without_part part x
given_state Failed part x = with_part part x

-- given: the one below, at the state with its part made sound, or failed
abbrev pub given_works : Condition → ℕ → (ℕ → Bool) → ℕ → Bool
given_works condition part below x = below (given_state condition part x)
