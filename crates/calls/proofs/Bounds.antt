-- Figures never widen, the first calls are never full, and a listing comes to its end. Assumes nothing.
use Rattle.std.proofs.Common.{◌≡◌, ℕ, suc, ◌<◌, ◌≤◌, Bool, true, false, cond, ◌&&◌, ltb, List, [], ◌∷◌, ◌++◌, length, sym, refl, ap, ◌∙◌, subst, inl, inr, arith, lit<, lit≤, pow_pos, le-ltb}
use borrow.Author.Tests.{clash}
use Rattle.std.proofs.lemmas.List.{length-append, length_push, append-nil, append_assoc}
use Rattle.std.proofs.lemmas.Bool.{cond-false, and_left, or_parts}
use Rattle.states.specs.Lists.{In}
use Rattle.states.specs.Sets.{with_part}
use Rattle.states.specs.Steps.{low, top, add_step, move_step}
use Rattle.states.proofs.Lists.{same_length}
use Rattle.states.proofs.Steps.{top_is}
use Rattle.calls.specs.Calls.{Runs, ends_here, goes_on, Said, Step, next_step, run_step, refused_step, figures_step, ran_full, is_full, says_full, says_finished}
use Rattle.calls.specs.Handing.{NextAnswer, handed_out, finished, full, next_states, Foremost, HandsOut, Next, handed_by}
use Rattle.calls.specs.Histories.{Moment, Led, none, more, handed_in, finished_in, full_in, one_if_next, nexts_in}
use Rattle.calls.specs.Memories.{Memory, lower, upper}
use Rattle.calls.specs.Stations.{Station, parts, up_in}
use Rattle.calls.specs.declared.answers.Call.{Call}
use Rattle.calls.specs.declared.answers.Ending.{Ending}
use Rattle.calls.specs.declared.answers.Ending.TheVariants as ends
use Rattle.calls.proofs.Histories.{handed_push, finished_push, full_push, nexts_push}

-- sums only grow
pub record Grown (l l' : Memory) : Type 0 where
  pub up : l.up ≤ l'.up
  pub down : l.down ≤ l'.down

module _ (w : Station) where
  grown_next : (a : NextAnswer) (l l' : Memory) → Next w l a l' → Grown l l'
  grown_next (handed_out x v) l l' next = record { up = omega (arith, next.0.up); down = omega (arith, next.0.down) }
  grown_next finished l l' next = record { up = omega (arith, ap (λ m. m.up) next.1); down = omega (arith, ap (λ m. m.down) next.1) }
  grown_next full l l' next = record { up = omega (arith, ap (λ m. m.up) next.1); down = omega (arith, ap (λ m. m.down) next.1) }

  grown_run : {target budget count : ℕ} {l l' : Memory} {e : Ending} {ys : List ℕ} → Runs w target budget count l e ys l' → Grown l l'
  grown_run (ends_here p) = record { up = omega arith; down = omega arith }
  grown_run (goes_on {x = x} {v = v} {l = l} {l₁ = l₁} g n r) =
      let here = grown_next (handed_out x v) l l₁ n in
      let rest = grown_run r in
      record { up = omega (arith, here.up, rest.up); down = omega (arith, here.down, rest.down) }

  grown_step : {c : Call} {l l' : Memory} {r : Said} {ys : List ℕ} → Step w c l r ys l' → Grown l l'
  grown_step {l = l} {l' = l'} (next_step a p) = grown_next a l l' p
  grown_step (run_step e s r) = grown_run r
  grown_step (refused_step h) = record { up = omega arith; down = omega arith }
  grown_step figures_step = record { up = omega arith; down = omega arith }

-- a call does not lower the lower figure, nor raise the upper one
pub narrows : (w : Station) {c : Call} {l l' : Memory} {r : Said} {ys : List ℕ} → Step w c l r ys l' → (lower l ≤ lower l') × (upper l' ≤ upper l)
narrows w step = let grown = grown_step w step in (omega (arith, grown.up), omega (arith, grown.down))

-- how many states wait: one at first, and then at most as many as were handed out
pub record Few (xs : List ℕ) (l : Memory) : Type 0 where
  pub first : length xs ≡ 0 → l.waiting ≡ 0 ∷ []
  pub then_few : 0 < length xs → length l.waiting ≤ length xs

module _ (w : Station) where
  at_most_one : (b : Bool) (z : ℕ) → length (cond b (z ∷ []) []) ≤ 1
  at_most_one true z = omega arith
  at_most_one false z = omega arith

  -- at most two states begin to wait, and after the empty state at most one
  two_next : (x : ℕ) → length (next_states w x) ≤ 2
  two_next x = go (up_in w x)
    where
      a : length (add_step (parts w) x) ≤ 1
      a = at_most_one _ _

      m : length (move_step (parts w) x) ≤ 1
      m = at_most_one _ _

      go : (b : Bool) → length (cond b (add_step (parts w) x ++ move_step (parts w) x) (move_step (parts w) x)) ≤ 2
      go true = omega (arith, a, m, length-append (add_step (parts w) x) (move_step (parts w) x))
      go false = omega (arith, m)

  one_next : (x : ℕ) → x ≡ 0 → length (next_states w x) ≤ 1
  one_next x e = subst (λ v. length (next_states w v) ≤ 1) (sym e) (go (up_in w 0))
    where
      no_move : move_step (parts w) 0 ≡ []
      no_move = cond-false (ltb 0 (top (parts w) 0) && ltb (top (parts w) 0) (parts w)) _ _ (and_left (ltb 0 (top (parts w) 0)) _ (le-ltb 0 (top (parts w) 0) (omega (arith, top_is (parts w) 0 0 (pow_pos (parts w)) (lit< tt) (lit≤ tt)))))

      go : (b : Bool) → length (cond b (add_step (parts w) 0 ++ move_step (parts w) 0) (move_step (parts w) 0)) ≤ 1
      go true = omega (arith, at_most_one (ltb (top (parts w) 0) (parts w)) (with_part (suc (top (parts w) 0)) (low (parts w) 0)), length-append (add_step (parts w) 0) (move_step (parts w) 0), ap length no_move)
      go false = omega (arith, ap length no_move)

  -- so few wait, and so few would after one more
  few_would : (xs : List ℕ) (l : Memory) (x : ℕ) → Few xs l → Foremost w l x → length (next_states w x ++ l.waiting) ≤ suc (suc (length xs))
  few_would [] l x few first =
      let e = few.first refl in
      let zero_is : x ≡ 0 = only_one (subst (λ v. In x v) e first.waits) in
      omega (arith, length-append (next_states w x) l.waiting, ap length e, one_next x zero_is)
    where
      only_one : In x (0 ∷ []) → x ≡ 0
      only_one (inl e) = sym e
      only_one (inr i) = absurd i
  few_would (y ∷ ys) l x few first =
      omega (arith, length-append (next_states w x) l.waiting, two_next x, few.then_few (omega arith))

  few_next : (xs : List ℕ) (l : Memory) (x : ℕ) (l' : Memory) → Few xs l → HandsOut w l x l' → Few (xs ++ x ∷ []) l'
  few_next xs l x l' few s = record {
    first = λ e. absurd (omega (arith, length_push xs x));
    then_few = λ h. omega (arith, same_length (x ∷ l'.waiting) (next_states w x ++ l.waiting) s.waiting, few_would xs l x few s.foremost, length_push xs x);
  }

  -- while fewer than 1,024 states were handed out, next does not refuse
  pub not_full : (xs : List ℕ) (l l' : Memory) → Few xs l → length xs < 1024 → Next w l full l' → ⊥
  not_full xs l l' few h next = omega (arith, few_would xs l next.0.0 few next.0.1, next.0.2)

  few_run : {target budget count : ℕ} {l l' : Memory} {e : Ending} {ys : List ℕ} (xs : List ℕ) → Few xs l → Runs w target budget count l e ys l' → Few (xs ++ ys) l'
  few_run {l = l} xs few (ends_here p) = subst (λ zs. Few zs l) (sym (append-nil xs)) few
  few_run xs few (goes_on {x = x} {l = l} {l₁ = l₁} {l₂ = l₂} {xs = ys} g n r) =
      subst (λ zs. Few zs l₂) (append_assoc xs (x ∷ []) ys) (few_run (xs ++ x ∷ []) (few_next xs l x l₁ few n.0) r)

  few_answer : (xs : List ℕ) (a : NextAnswer) (l l' : Memory) → Few xs l → Next w l a l' → Few (xs ++ handed_by a) l'
  few_answer xs (handed_out x v) l l' few next = few_next xs l x l' few next.0
  few_answer xs finished l l' few next = rw (append-nil xs, next.1) few
  few_answer xs full l l' few next = rw (append-nil xs, next.1) few

  few_step : {c : Call} {l l' : Memory} {r : Said} {ys : List ℕ} (xs : List ℕ) → Few xs l → Step w c l r ys l' → Few (xs ++ ys) l'
  few_step {l = l} {l' = l'} xs few (next_step a p) = few_answer xs a l l' few p
  few_step xs few (run_step e s r) = few_run xs few r
  few_step {l = l} xs few (refused_step h) = subst (λ zs. Few zs l) (sym (append-nil xs)) few
  few_step {l = l} xs few figures_step = subst (λ zs. Few zs l) (sym (append-nil xs)) few

  pub few_led : {ms : List Moment} {l : Memory} → Led w ms l → Few (handed_in ms) l
  few_led none = record { first = λ e. refl; then_few = λ h. absurd (omega arith) }
  few_led (more ms m led step) = subst (λ xs. Few xs m.kept) (sym (handed_push ms m)) (few_step (handed_in ms) (few_led led) step)

  -- nor does a run end full before that
  pub run_not_full : {target budget count : ℕ} {l l' : Memory} {ys : List ℕ} (xs : List ℕ) → Few xs l → Runs w target budget count l ends.Full ys l' → length (xs ++ ys) < 1024 → ⊥
  run_not_full {l = l} xs few (ends_here p) h = not_full xs l l few (omega (arith, ap length (append-nil xs))) p.1
  run_not_full xs few (goes_on {x = x} {l = l} {l₁ = l₁} {xs = ys} g n r) h =
      run_not_full (xs ++ x ∷ []) (few_next xs l x l₁ few n.0) r (omega (arith, ap length (append_assoc xs (x ∷ []) ys)))

  full_answer : (xs : List ℕ) (a : NextAnswer) (l l' : Memory) → Few xs l → Next w l a l' → length (xs ++ handed_by a) < 1024 → is_full a ≡ false
  full_answer xs (handed_out x v) l l' few next h = refl
  full_answer xs finished l l' few next h = refl
  full_answer xs full l l' few next h = absurd (not_full xs l l' few (omega (arith, ap length (append-nil xs))) next)

  full_end : {target budget : ℕ} {l l' : Memory} {ys : List ℕ} (xs : List ℕ) (e : Ending) → Few xs l → Runs w target budget 0 l e ys l' → length (xs ++ ys) < 1024 → ran_full e ≡ false
  full_end xs ends.Reached few r h = refl
  full_end xs ends.Finished few r h = refl
  full_end xs ends.Spent few r h = refl
  full_end xs ends.Full few r h = absurd (run_not_full xs few r h)

  -- no call answers 'full' before 1,024 states were handed out
  pub not_full_early : {c : Call} {l l' : Memory} {r : Said} {ys : List ℕ} (xs : List ℕ) → Few xs l → Step w c l r ys l' → length (xs ++ ys) < 1024 → says_full r ≡ false
  not_full_early {l = l} {l' = l'} xs few (next_step a p) h = full_answer xs a l l' few p h
  not_full_early xs few (run_step e s r) h = full_end xs e few r h
  not_full_early xs few (refused_step s) h = refl
  not_full_early xs few figures_step h = refl

  -- a call of next that answers neither 'full' nor 'finished' hands out a state
  hands_one : {c : Call} {l l' : Memory} {r : Said} {ys : List ℕ} → Step w c l r ys l' → says_full r ≡ false → says_finished r ≡ false → one_if_next c ≤ length ys
  hands_one (next_step (handed_out x v) p) a b = omega arith
  hands_one (next_step finished p) a b = absurd (clash (sym b))
  hands_one (next_step full p) a b = absurd (clash (sym a))
  hands_one (run_step e s r) a b = omega arith
  hands_one (refused_step s) a b = omega arith
  hands_one figures_step a b = omega arith

  -- so the calls of next are at most as many as the states handed out
  pub nexts_few : {ms : List Moment} {l : Memory} → Led w ms l → full_in ms ≡ false → finished_in ms ≡ false → nexts_in ms ≤ length (handed_in ms)
  nexts_few none a b = omega arith
  nexts_few (more ms m led step) a b =
      let fulls = or_parts (full_in ms) (says_full m.answer) (sym (full_push ms m) ∙ a) in
      let ends = or_parts (finished_in ms) (says_finished m.answer) (sym (finished_push ms m) ∙ b) in
      omega (arith, nexts_push ms m, ap length (handed_push ms m), length-append (handed_in ms) m.handed, nexts_few led fulls.0 ends.0, hands_one step fulls.1 ends.1)
