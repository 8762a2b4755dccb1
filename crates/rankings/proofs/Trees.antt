-- In the tree of states no state is ahead of the one under which it hangs. Assumes nothing.
use Rattle.std.proofs.Common.{◌≡◌, ℕ, zero, suc, ◌+◌, ◌^◌, ◌<◌, ◌≤◌, Bool, true, false, ◌⊎◌, sym, ap, ◌∙◌, inl, inr, ⊎_elim, arith}
use Rattle.std.proofs.lemmas.Bool.{or_right, and_from, not_from_false, lt-ltb}
use Rattle.states.specs.Steps.{top, Leads}
use Rattle.states.specs.Trees.{in_tree}
use Rattle.states.proofs.Steps.{top_le}
use Rattle.states.proofs.Trees.{tree_cases, steps_within, steps_grow}
use Rattle.rankings.specs.Orders.{OneWay, Through, AddFollows, MoveFollows, ahead}
use Rattle.rankings.proofs.Orders.{strict_order}

module _ (n : ℕ) (outranks : ℕ → ℕ → Bool) (one_way : OneWay n outranks) (through : Through n outranks) (adds : AddFollows n outranks) (moves : MoveFollows n outranks) where
  -- a state is ahead of those to which its steps lead
  pub step_behind : (x z : ℕ) → x < 2 ^ n → Leads n x z → ahead outranks x z ≡ true
  step_behind x z on_sheet s =
      let follows : outranks z x ≡ false = ⊎_elim (adds x z on_sheet) (moves x z on_sheet) s in
      or_right (outranks x z) _ (and_from _ _ (not_from_false _ follows) (lt-ltb x z (steps_grow n x on_sheet z s)))

  first_within : (d x y : ℕ) → n ≤ d + top n x → x < 2 ^ n → y < 2 ^ n → in_tree n x y ≡ true → (x ≡ y) ⊎ (ahead outranks x y ≡ true)
  first_within zero x y far on_sheet y_on t = ⊎_elim (λ e. inl e) (λ next. absurd (beyond next)) (tree_cases n x y on_sheet y_on t)
    where
      beyond : ((z : ℕ) × Leads n x z × (in_tree n z y ≡ true)) → ⊥
      beyond next = omega (arith, (steps_within n x on_sheet next.0 next.1).1, top_le n next.0)
  first_within (suc d) x y far on_sheet y_on t = ⊎_elim (λ e. inl e) (λ next. inr (later next (first_within d next.0 y))) (tree_cases n x y on_sheet y_on t)
    where
      later : (next : (z : ℕ) × Leads n x z × (in_tree n z y ≡ true))
          → (n ≤ d + top n next.0 → next.0 < 2 ^ n → y < 2 ^ n → in_tree n next.0 y ≡ true → (next.0 ≡ y) ⊎ (ahead outranks next.0 y ≡ true))
          → ahead outranks x y ≡ true
      later next rest =
          let z = next.0 in
          let within = steps_within n x on_sheet z next.1 in
          let behind = step_behind x z on_sheet next.1 in
          ⊎_elim (λ e. ap (ahead outranks x) (sym e) ∙ behind)
          (λ a. (strict_order n outranks one_way through).passes_on x z y on_sheet within.0 y_on behind a)
          (rest (omega arith) within.0 y_on next.2)

  -- a state is ahead of all that hang under it
  pub root_first : (x y : ℕ) → x < 2 ^ n → y < 2 ^ n → in_tree n x y ≡ true → (x ≡ y) ⊎ (ahead outranks x y ≡ true)
  root_first x y on_sheet y_on t = first_within n x y (omega arith) on_sheet y_on t
