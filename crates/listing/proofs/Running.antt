-- A run, turn by turn. Assumes nothing.
use Rattle.std.proofs.Common.{◌≡◌, ℕ, suc, ◌+◌, List, [], ◌∷◌, ◌++◌, length, false, true, Option, Some, None, Result, Ok, Err, is_err, sym, refl, ap, ◌∙◌, subst, arith}
use borrow.Author.Tests.{clash}
use Rattle.std.proofs.lemmas.List.{append-nil, append_assoc, length_push}
use Rattle.calls.specs.Calls.{GoesOn, Ends, Runs, ends_here, goes_on}
use Rattle.calls.specs.Handing.{Next}
use Rattle.calls.specs.Memories.{Memory}
use Rattle.calls.specs.Replies.{next_answer}
use Rattle.calls.specs.Stations.{Station}
use Rattle.calls.specs.declared.answers.Ending.{Ending}
use Rattle.calls.specs.declared.answers.Ending.TheVariants as ends
use Rattle.calls.specs.declared.answers.Handed.{Handed}
use Rattle.calls.specs.declared.answers.Ran.{Ran}
use Rattle.calls.specs.declared.refusal.Full.{Full}

module _ (w : Station) (target budget : ℕ) (l : Memory) where
  -- a run at l has handed out count states and come to l₁: what it does from there on gives what it does from l on
  pub record SoFar (count : ℕ) (l₁ : Memory) : Type 0 where
    pub out : List ℕ
    pub many : length out ≡ count
    pub rest : {e : Ending} {ys : List ℕ} {m : Memory} → Runs w target budget count l₁ e ys m → Runs w target budget 0 l e (out ++ ys) m

  pub begins : SoFar 0 l
  begins = record { out = []; many = refl; rest = λ r. r }

  -- it ends here
  pub ends_at : (count : ℕ) (l₁ : Memory) → SoFar count l₁ → (e : Ending) → Ends w target budget count l₁ e → (xs : List ℕ) × (length xs ≡ count) × Runs w target budget 0 l e xs l₁
  ends_at count l₁ so e stop = (so.out, so.many, subst (λ xs. Runs w target budget 0 l e xs l₁) (append-nil so.out) (so.rest (ends_here stop)))

  -- or goes on by one state
  pub goes_by : (count : ℕ) (l₁ l₂ : Memory) → SoFar count l₁ → GoesOn target budget count l₁ → (r : Result (Option Handed) Full) → is_err r ≡ false → Next w l₁ (next_answer r) l₂ → SoFar (count + 1) l₂
  goes_by count l₁ l₂ so goes (Ok (Some h)) ok next =
      let x = h.state.number in
      let one_more : suc count ≡ count + 1 = omega arith in
      record {
        out = so.out ++ x ∷ [];
        many = length_push so.out x ∙ ap (λ k. k + 1) so.many;
        rest = λ {e} {ys} {m} r.
            subst (λ xs. Runs w target budget 0 l e xs m) (sym (append_assoc so.out (x ∷ []) ys))
            (so.rest (goes_on goes next (subst (λ k. Runs w target budget k l₂ e ys m) (sym one_more) r)));
      }
  goes_by count l₁ l₂ so goes (Ok None) ok next = absurd (goes.not_finished next.0)
  goes_by count l₁ l₂ so goes (Err e) ok next = absurd (clash (sym ok))

  -- or ends since next refuses
  pub ends_full : (count : ℕ) (l₁ l₂ : Memory) → SoFar count l₁ → GoesOn target budget count l₁ → (r : Result (Option Handed) Full) → is_err r ≡ true → Next w l₁ (next_answer r) l₂
      → (xs : List ℕ) × (length xs ≡ count) × Runs w target budget 0 l ends.Full xs l₂
  ends_full count l₁ l₂ so goes (Ok h) err next = absurd (clash err)
  ends_full count l₁ l₂ so goes (Err e) err next =
      subst (λ m. (xs : List ℕ) × (length xs ≡ count) × Runs w target budget 0 l ends.Full xs m) (sym next.1) (ends_at count l₁ so ends.Full (goes, (next.0, refl)))

-- the same, by what the run answers
pub answered : (w : Station) (target budget count : ℕ) (l l₁ : Memory) (e : Ending) (r : Ran) → r ≡ record { ending = e; count = count } → (xs : List ℕ) × (length xs ≡ count) × Runs w target budget 0 l e xs l₁
    → (xs : List ℕ) × (length xs ≡ r.count) × Runs w target budget 0 l r.ending xs l₁
answered w target budget count l l₁ e r is run = subst (λ v. (xs : List ℕ) × (length xs ≡ v.count) × Runs w target budget 0 l v.ending xs l₁) (sym is) run
