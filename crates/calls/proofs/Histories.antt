-- Histories one call longer, and cut at a call. Assumes nothing.
use Rattle.std.proofs.Common.{◌≡◌, ℕ, ◌+◌, Bool, true, false, ◌||◌, List, [], ◌∷◌, ◌++◌, sym, refl, ap, ◌∙◌, subst, subst₂, arith}
use Rattle.std.proofs.lemmas.List.{append-nil, append_assoc, same_from_push}
use Rattle.calls.specs.Calls.{Step, says_finished, says_full}
use Rattle.calls.specs.Histories.{Moment, Led, none, more, handed_in, finished_in, full_in, one_if_next, nexts_in, kept_from, kept_after}
use Rattle.calls.specs.Memories.{Memory, opened}
use Rattle.calls.specs.Stations.{Station}
use Rattle.calls.proofs.Endings.{Ended, empty, last, ended}

pub handed_push : (ms : List Moment) (m : Moment) → handed_in (ms ++ m ∷ []) ≡ handed_in ms ++ m.handed
handed_push [] m = append-nil m.handed
handed_push (n ∷ ns) m = ap (λ xs. n.handed ++ xs) (handed_push ns m) ∙ sym (append_assoc n.handed (handed_in ns) m.handed)

either_push : (a b c : Bool) (d : Bool) → d ≡ (b || c) → (a || d) ≡ ((a || b) || c)
either_push true b c d e = refl
either_push false b c d e = e

last_said : (b : Bool) → (b || false) ≡ b
last_said true = refl
last_said false = refl

pub finished_push : (ms : List Moment) (m : Moment) → finished_in (ms ++ m ∷ []) ≡ (finished_in ms || says_finished m.answer)
finished_push [] m = last_said (says_finished m.answer)
finished_push (n ∷ ns) m = either_push (says_finished n.answer) (finished_in ns) (says_finished m.answer) _ (finished_push ns m)

pub full_push : (ms : List Moment) (m : Moment) → full_in (ms ++ m ∷ []) ≡ (full_in ms || says_full m.answer)
full_push [] m = last_said (says_full m.answer)
full_push (n ∷ ns) m = either_push (says_full n.answer) (full_in ns) (says_full m.answer) _ (full_push ns m)

pub nexts_push : (ms : List Moment) (m : Moment) → nexts_in (ms ++ m ∷ []) ≡ nexts_in ms + one_if_next m.made
nexts_push [] m = omega arith
nexts_push (n ∷ ns) m = omega (arith, nexts_push ns m)

kept_push : (l : Memory) (ms : List Moment) (m : Moment) → kept_from l (ms ++ m ∷ []) ≡ m.kept
kept_push l [] m = refl
kept_push l (n ∷ ns) m = kept_push n.kept ns m

module _ (w : Station) where
  pub kept_is : {ms : List Moment} {l : Memory} → Led w ms l → kept_after ms ≡ l
  kept_is none = refl
  kept_is (more ms m led step) = kept_push opened ms m

  -- a history cut at a call: what led there, and the call
  pub record Cut (before : List Moment) (m : Moment) : Type 0 where
    pub led : Led w before (kept_after before)
    pub step : Step w m.made (kept_after before) m.answer m.handed m.kept

  cut_here : {l : Memory} (ms : List Moment) (m : Moment) → Led w ms l → Step w m.made l m.answer m.handed m.kept → Cut ms m
  cut_here ms m led step =
      let e = sym (kept_is led) in
      record { led = subst (Led w ms) e led; step = subst (λ k. Step w m.made k m.answer m.handed m.kept) e step }

  pub cut_at : {ms : List Moment} {l : Memory} (before : List Moment) (m : Moment) (after : List Moment) → ms ≡ before ++ m ∷ after → Led w ms l → Cut before m
  cut_at before m after e led = go led after (ended after) e
    where
      go : {ms : List Moment} {l : Memory} → Led w ms l → (after : List Moment) → Ended after → ms ≡ before ++ m ∷ after → Cut before m
      go none after view e = absurd (nothing before e)
        where
          nothing : (bs : List Moment) → [] ≡ bs ++ m ∷ after → ⊥
          nothing [] e = let z : ◌≡◌ {A = ℕ} 0 1 = cc in omega arith
          nothing (b ∷ bs) e = let z : ◌≡◌ {A = ℕ} 0 1 = cc in omega arith
      go (more ms n led step) _ empty e =
          let same = same_from_push ms before n m e in
          subst₂ Cut same.0 same.1 (cut_here ms n led step)
      go (more ms n led step) _ (last rest z) e =
          let same = same_from_push ms (before ++ m ∷ rest) n z (e ∙ sym (append_assoc before (m ∷ rest) (z ∷ []))) in
          go led rest (ended rest) same.0
