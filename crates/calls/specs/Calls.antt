-- What each call of a listing does. Assumes nothing.
use Rattle.std.specs.Prelude.{◌≡◌, ℕ, suc, ◌+◌, ◌*◌, ◌^◌, ◌<◌, ◌≤◌, Bool, true, false, List, [], ◌∷◌, length, ◌≢◌}
use Rattle.calls.specs.Handing.{NextAnswer, handed_out, finished, full, Next, handed_by}
use Rattle.calls.specs.Memories.{Memory, figures_at}
use Rattle.calls.specs.Stations.{Station}
use Rattle.calls.specs.declared.answers.Call.{Call}
use Rattle.calls.specs.declared.answers.Call.TheVariants as call
use Rattle.calls.specs.declared.answers.Ending.{Ending}
use Rattle.calls.specs.declared.answers.Ending.TheVariants as ends
use Rattle.calls.specs.declared.answers.Figures.{Figures}
use Rattle.calls.specs.declared.answers.Ran.{Ran}
use Rattle.calls.specs.declared.answers.Verdict.{Verdict}

-- the sums reach the target, in parts per million
abbrev pub Reached : ℕ → Memory → Type 0
Reached target l = target * 10 ^ 12 ≤ l.up + l.down

-- a run that has handed out so many states goes on: neither reached nor finished nor spent
pub record GoesOn (target budget count : ℕ) (l : Memory) : Type 0 where
  pub not_reached : Reached target l → ⊥
  pub not_finished : l.waiting ≡ [] → ⊥
  pub not_spent : count < budget

-- it ends so, tested in this order: reached, finished, spent, full
abbrev pub Ends : Station → ℕ → ℕ → ℕ → Memory → Ending → Type 0
Ends w target budget count l ends.Reached = Reached target l
Ends w target budget count l ends.Finished = (Reached target l → ⊥) × (l.waiting ≡ [])
Ends w target budget count l ends.Spent = (Reached target l → ⊥) × (l.waiting ≢ []) × (count ≡ budget)
Ends w target budget count l ends.Full = GoesOn target budget count l × Next w l full l

-- from l on, a run that has handed out count states hands out xs, ends so, and leaves l'
pub data Runs (w : Station) (target budget : ℕ) : ℕ → Memory → Ending → List ℕ → Memory → Type 0 where
  ends_here : {count : ℕ} {l : Memory} {e : Ending} → Ends w target budget count l e → Runs w target budget count l e [] l
  goes_on : {count x : ℕ} {v : Verdict} {l l₁ l₂ : Memory} {e : Ending} {xs : List ℕ} → GoesOn target budget count l
      → Next w l (handed_out x v) l₁ → Runs w target budget (suc count) l₁ e xs l₂ → Runs w target budget count l e (x ∷ xs) l₂

-- what a call answers
pub data Said : Type 0 where
  next_said : NextAnswer → Said
  run_said : Ran → Said
  run_refused : Said
  figures_said : Figures → Said

-- what a call does at l: it answers so, hands out xs, and leaves l'
pub data Step (w : Station) : Call → Memory → Said → List ℕ → Memory → Type 0 where
  next_step : {l l' : Memory} (a : NextAnswer) → Next w l a l' → Step w call.Next l (next_said a) (handed_by a) l'
  -- a run reports how it ended and how many states it handed out itself
  run_step : {target budget : ℕ} {l l' : Memory} {xs : List ℕ} (e : Ending) → target ≤ 1000000 → Runs w target budget 0 l e xs l'
      → Step w (call.Run target budget) l (run_said (record { ending = e; count = length xs })) xs l'
  refused_step : {target budget : ℕ} {l : Memory} → 1000000 < target → Step w (call.Run target budget) l run_refused [] l
  figures_step : {l : Memory} → Step w call.Figures l (figures_said (figures_at l)) [] l

-- an answer is 'finished'
abbrev pub ran_out : Ending → Bool
ran_out ends.Reached = false
ran_out ends.Finished = true
ran_out ends.Spent = false
ran_out ends.Full = false

abbrev pub is_finished : NextAnswer → Bool
is_finished (handed_out x v) = false
is_finished finished = true
is_finished full = false

abbrev pub says_finished : Said → Bool
says_finished (next_said a) = is_finished a
says_finished (run_said r) = ran_out r.ending
says_finished run_refused = false
says_finished (figures_said f) = false

-- an answer is 'full'
abbrev pub ran_full : Ending → Bool
ran_full ends.Reached = false
ran_full ends.Finished = false
ran_full ends.Spent = false
ran_full ends.Full = true

abbrev pub is_full : NextAnswer → Bool
is_full (handed_out x v) = false
is_full finished = false
is_full full = true

abbrev pub says_full : Said → Bool
says_full (next_said a) = is_full a
says_full (run_said r) = ran_full r.ending
says_full run_refused = false
says_full (figures_said f) = false
