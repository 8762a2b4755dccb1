-- Lists of calls made on a listing since it was opened. Assumes nothing.
use Rattle.std.specs.Prelude.{ℕ, ◌+◌, Bool, false, ◌||◌, List, [], ◌∷◌, ◌++◌, map}
use Rattle.calls.specs.Calls.{Said, Step, says_finished, says_full}
use Rattle.calls.specs.Memories.{Memory, opened, figures_at}
use Rattle.calls.specs.Stations.{Station}
use Rattle.calls.specs.declared.answers.Call.{Call}
use Rattle.calls.specs.declared.answers.Call.TheVariants as call
use Rattle.calls.specs.declared.answers.Figures.{Figures}

-- one call of a list: which it was, what it answered, the states it handed out, and what the listing kept after it
pub record Moment : Type 0 where
  pub made : Call
  pub answer : Said
  pub handed : List ℕ
  pub kept : Memory

abbrev pub moment : Call → Said → List ℕ → Memory → Moment
moment c a xs l = record { made = c; answer = a; handed = xs; kept = l }

-- a listing was opened, these calls were made in turn, and it keeps l
pub data Led (w : Station) : List Moment → Memory → Type 0 where
  none : Led w [] opened
  more : {l : Memory} (ms : List Moment) (m : Moment) → Led w ms l → Step w m.made l m.answer m.handed m.kept → Led w (ms ++ m ∷ []) m.kept

-- which calls were made
abbrev pub calls_in : List Moment → List Call
calls_in ms = map (λ m. m.made) ms

-- the states handed out, in order
abbrev pub handed_in : List Moment → List ℕ
handed_in [] = []
handed_in (m ∷ ms) = m.handed ++ handed_in ms

-- some call answered 'finished'
abbrev pub finished_in : List Moment → Bool
finished_in [] = false
finished_in (m ∷ ms) = says_finished m.answer || finished_in ms

-- some call answered 'full'
abbrev pub full_in : List Moment → Bool
full_in [] = false
full_in (m ∷ ms) = says_full m.answer || full_in ms

-- how often next was called
abbrev pub one_if_next : Call → ℕ
one_if_next call.Next = 1
one_if_next (call.Run target budget) = 0
one_if_next call.Figures = 0

abbrev pub nexts_in : List Moment → ℕ
nexts_in [] = 0
nexts_in (m ∷ ms) = one_if_next m.made + nexts_in ms

-- what is kept after calls that begin at l
abbrev pub kept_from : Memory → List Moment → Memory
kept_from l [] = l
kept_from l (m ∷ ms) = kept_from m.kept ms

-- what is kept after calls since open
abbrev pub kept_after : List Moment → Memory
kept_after ms = kept_from opened ms

-- what a caller sees of a call: its answer, the states it handed out, and the figures after it
pub record Sight : Type 0 where
  pub answer : Said
  pub handed : List ℕ
  pub figures : Figures

abbrev pub seen : Moment → Sight
seen m = record { answer = m.answer; handed = m.handed; figures = figures_at m.kept }
