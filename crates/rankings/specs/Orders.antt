-- Orders of states with ties, what is asked of them on a sheet of n parts, and what a comparison answers. Assumes nothing.
use Rattle.std.specs.Prelude.{◌≡◌, ℕ, ◌^◌, ◌<◌, Bool, true, false, cond, not, ◌&&◌, ◌||◌, [], ◌∷◌, ◌≢◌, nat_lt}
use Rattle.std.specs.Ordering.{is_lt, ordering_then, nat_cmp}
use Rattle.std.specs.declared.cmp.Ordering.{Ordering}
use Rattle.std.specs.declared.cmp.Ordering.TheVariants.{Less, Equal, Greater}
use Rattle.states.specs.Steps.{add_step, move_step}

-- of two states of the sheet at most one outranks the other
abbrev pub OneWay : ℕ → (ℕ → ℕ → Bool) → Type 0
OneWay n outranks = (x y : ℕ) → x < 2 ^ n → y < 2 ^ n → outranks x y ≡ true → outranks y x ≡ false

-- where x does not outrank y, nor y outrank z, x does not outrank z
abbrev pub Through : ℕ → (ℕ → ℕ → Bool) → Type 0
Through n outranks =
    (x y z : ℕ) → x < 2 ^ n → y < 2 ^ n → z < 2 ^ n → outranks x y ≡ false → outranks y z ≡ false → outranks x z ≡ false

-- what add gives of a state never outranks it
abbrev pub AddFollows : ℕ → (ℕ → ℕ → Bool) → Type 0
AddFollows n outranks = (x y : ℕ) → x < 2 ^ n → add_step n x ≡ y ∷ [] → outranks y x ≡ false

-- what move gives of a state never outranks it
abbrev pub MoveFollows : ℕ → (ℕ → ℕ → Bool) → Type 0
MoveFollows n outranks = (x y : ℕ) → x < 2 ^ n → move_step n x ≡ y ∷ [] → outranks y x ≡ false

-- how a state ranks against another, where it outranks that one, or that one outranks it; the one that outranks comes first
abbrev pub rank_of : Bool → Bool → Ordering
rank_of first second = cond first Less (cond second Greater Equal)

-- how x ranks against y on the sheet
abbrev pub ranked : (ℕ → ℕ → Bool) → ℕ → ℕ → Ordering
ranked outranks x y = rank_of (outranks x y) (outranks y x)

-- r is how two states of the sheet rank, whichever have these keys; nothing is said of what is no state's key
abbrev pub RankedByKeys : {Key : Type 0} → ℕ → (ℕ → ℕ → Bool) → (ℕ → Key) → Key → Key → Ordering → Type 0
RankedByKeys n outranks keyed first second r = (x y : ℕ) → x < 2 ^ n → y < 2 ^ n → first ≡ keyed x → second ≡ keyed y → r ≡ ranked outranks x y

-- comparing the keys of two states of the sheet answers how the states rank
abbrev pub ComparedAsRanked : {Key : Type 0} → ℕ → (ℕ → ℕ → Bool) → (ℕ → Key) → (Key → Key → Ordering) → Type 0
ComparedAsRanked n outranks keyed compared = (x y : ℕ) → x < 2 ^ n → y < 2 ^ n → compared (keyed x) (keyed y) ≡ ranked outranks x y

-- x is ahead of y: it outranks y, or they tie and x has the smaller number
abbrev pub ahead : (ℕ → ℕ → Bool) → ℕ → ℕ → Bool
ahead outranks x y = outranks x y || (not (outranks y x) && nat_lt x y)

-- x is ahead of y, by their keys: it outranks it, or they tie and x has the smaller number
abbrev pub ahead_by_keys : {Key : Type 0} → (Key → Key → Ordering) → ℕ → Key → ℕ → Key → Bool
ahead_by_keys compared x first y second = is_lt (ordering_then (compared first second) (nat_cmp x y))

-- a strict total order on the states of a sheet of n parts
pub record StrictOrder (n : ℕ) (before : ℕ → ℕ → Bool) : Type 0 where
  pub not_itself : (x : ℕ) → x < 2 ^ n → before x x ≡ false
  pub passes_on : (x y z : ℕ) → x < 2 ^ n → y < 2 ^ n → z < 2 ^ n → before x y ≡ true → before y z ≡ true → before x z ≡ true
  pub one_of_two : (x y : ℕ) → x < 2 ^ n → y < 2 ^ n → (x ≢ y) → before x y ≡ not (before y x)
