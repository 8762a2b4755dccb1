-- What one call of next does. Assumes nothing.
use Rattle.std.specs.Prelude.{◌≡◌, ℕ, suc, ◌+◌, ◌<◌, ◌≤◌, cond, ◌⊎◌, List, [], ◌∷◌, ◌++◌, length}
use Rattle.states.specs.Lists.{In, Same}
use Rattle.states.specs.Steps.{add_step, move_step}
use Rattle.calls.specs.Memories.{Memory}
use Rattle.calls.specs.Stations.{Station, parts, up_in, verdict_in, mass_in, share_in, Ahead}
use Rattle.calls.specs.declared.answers.Verdict.{Verdict}

-- the states that begin to wait when x is handed out: after a working state both steps, after a failing one the move
abbrev pub next_states : Station → ℕ → List ℕ
next_states w x = cond (up_in w x) (add_step (parts w) x ++ move_step (parts w) x) (move_step (parts w) x)

-- x waits, and is ahead of all others that do
pub record Foremost (w : Station) (l : Memory) (x : ℕ) : Type 0 where
  pub waits : In x l.waiting
  pub first : (y : ℕ) → In y l.waiting → (x ≡ y) ⊎ Ahead w x y

-- the listing hands out x
pub record HandsOut (w : Station) (l : Memory) (x : ℕ) (l' : Memory) : Type 0 where
  pub foremost : Foremost w l x
  -- x waits no more, and what begins to wait does
  pub waiting : Same (x ∷ l'.waiting) (next_states w x ++ l.waiting)
  -- a working state's mass joins the up sum, a failing one's share the down sum
  pub up : l'.up ≡ l.up + cond (up_in w x) (mass_in w x) 0
  pub down : l'.down ≡ l.down + cond (up_in w x) 0 (share_in w x)
  pub handed : l'.handed ≡ suc l.handed

-- what next answers
pub data NextAnswer : Type 0 where
  handed_out : ℕ → Verdict → NextAnswer
  finished : NextAnswer
  full : NextAnswer

-- next answers a at l, and leaves l'
abbrev pub Next : Station → Memory → NextAnswer → Memory → Type 0
Next w l (handed_out x v) l' = HandsOut w l x l' × (v ≡ verdict_in w x) × (length l'.waiting ≤ 1024)
Next w l finished l' = (l.waiting ≡ []) × (l' ≡ l)
Next w l full l' = ((x : ℕ) × Foremost w l x × (1025 < length (next_states w x ++ l.waiting))) × (l' ≡ l)

-- the states that an answer hands out
abbrev pub handed_by : NextAnswer → List ℕ
handed_by (handed_out x v) = x ∷ []
handed_by finished = []
handed_by full = []
