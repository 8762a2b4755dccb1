-- The law of listings. Assumes nothing.
use Rattle.std.specs.Prelude.{◌≡◌, ℕ, ◌+◌, ◌*◌, ◌/◌, ◌^◌, ◌<◌, ◌≤◌, Bool, true, false, cond, ◌⊎◌, List, [], ◌∷◌, ◌++◌, map, length, ◌≢◌}
use Rattle.std.specs.List.{AllByRecursion}
use Rattle.states.specs.Lists.{In, Different, Pairwise}
use Rattle.states.specs.Masses.{total}
use Rattle.states.specs.Sets.{Within}
use Rattle.states.specs.Sums.{sum_of}
use Rattle.rankings.specs.Exact.{heavier}
use Rattle.calls.specs.Calls.{says_full}
use Rattle.calls.specs.Histories.{Moment, Led, calls_in, handed_in, finished_in, full_in, nexts_in, kept_after, seen}
use Rattle.calls.specs.Memories.{Memory, lower, upper, rounded_up}
use Rattle.calls.specs.Stations.{Station, parts, up_in, mass_in, Ahead, reliability, OnSheet, MinimalCut}

-- y contains a failing state of xs
abbrev pub Covered : Station → List ℕ → ℕ → Type 0
Covered w xs y = (x : ℕ) × In x xs × (up_in w x ≡ false) × Within x y

-- y properly contains a failing state of xs
abbrev pub ProperlyCovered : Station → List ℕ → ℕ → Type 0
ProperlyCovered w xs y = (x : ℕ) × In x xs × (up_in w x ≡ false) × Within x y × (x ≢ y)

-- which states xs were handed out, and in which order
pub record OrderLaw (w : Station) (xs : List ℕ) (finished : Bool) : Type 0 where
  -- all are states of the sheet, and each is ahead of all later ones
  pub on_sheet : AllByRecursion (OnSheet w) xs
  pub in_order : Pairwise (Ahead w) xs
  -- whatever is ahead of the last one was handed out, or contains a failing one handed out before that last one
  pub none_passed_over : (before : List ℕ) (z : ℕ) → xs ≡ before ++ z ∷ [] → (y : ℕ) → OnSheet w y → Ahead w y z → In y before ⊎ Covered w before y
  -- once an answer was 'finished', every working state and every minimal cut was handed out
  pub all_working : finished ≡ true → (y : ℕ) → OnSheet w y → up_in w y ≡ true → In y xs
  pub all_cuts : finished ≡ true → (y : ℕ) → MinimalCut w y → In y xs

-- what the sums and figures say after xs were handed out
pub record FiguresLaw (w : Station) (xs : List ℕ) (finished : Bool) (l : Memory) : Type 0 where
  -- the up sum is that of the working masses handed out
  pub up_is : l.up ≡ sum_of (λ x. cond (up_in w x) (mass_in w x) 0) xs
  -- the reliability lies between the figures
  pub lower_below : lower l * total ≤ 1000000000 * reliability w
  pub upper_above : 1000000000 * reliability w ≤ upper l * total
  -- once finished the sums are exact, and the figures the reliability rounded down and up
  pub up_exact : finished ≡ true → l.up ≡ reliability w
  pub down_exact : finished ≡ true → l.down + reliability w ≡ total
  pub lower_exact : finished ≡ true → lower l ≡ 1000000000 * reliability w / total
  pub upper_exact : finished ≡ true → upper l ≡ rounded_up (1000000000 * reliability w) total
  -- how many were handed out, at most all states of the sheet
  pub count_is : l.handed ≡ length xs
  pub count_bound : length xs ≤ 2 ^ parts w

-- where the ranking is by mass, no equally many states weigh more, of which none properly contains a failing one handed out
abbrev pub Heaviest : Station → List ℕ → Type 0
Heaviest w xs =
    ((x y : ℕ) → OnSheet w x → OnSheet w y → w.outranks x y ≡ heavier w.figures x y)
    → (zs : List ℕ) → AllByRecursion (OnSheet w) zs → Different zs → length zs ≡ length xs → AllByRecursion (λ z. ProperlyCovered w xs z → ⊥) zs
    → sum_of (mass_in w) zs ≤ sum_of (mass_in w) xs

-- how the calls ms followed one another
pub record HistoryLaw (w : Station) (ms : List Moment) : Type 0 where
  -- no call lowered the lower figure or raised the upper one
  pub never_widens : (before : List Moment) (m : Moment) (after : List Moment) → ms ≡ before ++ m ∷ after
      → (lower (kept_after before) ≤ lower m.kept) × (upper m.kept ≤ upper (kept_after before))
  -- the same calls always answer the same, hand out the same states, and are followed by the same figures
  pub one_history : (ns : List Moment) (k : Memory) → Led w ns k → calls_in ns ≡ calls_in ms → map seen ns ≡ map seen ms
  -- no call answers 'full' before 1,024 states were handed out
  pub never_full_early : (before : List Moment) (m : Moment) (after : List Moment) → ms ≡ before ++ m ∷ after
      → length (handed_in (before ++ m ∷ [])) < 1024 → says_full m.answer ≡ false
  -- a listing that was never full has said 'finished' when next was called oftener than there are states
  pub comes_to_an_end : full_in ms ≡ false → 2 ^ parts w < nexts_in ms → finished_in ms ≡ true

-- the law of listings: a listing was opened, the calls ms were made, and it keeps l
pub record ListingLaw (w : Station) (ms : List Moment) (l : Memory) : Type 0 where
  pub order : OrderLaw w (handed_in ms) (finished_in ms)
  pub figures : FiguresLaw w (handed_in ms) (finished_in ms) l
  pub heaviest : Heaviest w (handed_in ms)
  pub history : HistoryLaw w ms
