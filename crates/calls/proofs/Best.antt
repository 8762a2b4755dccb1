-- Where the ranking is by mass, the states handed out are the heaviest. Assumes nothing.
use Rattle.std.proofs.Common.{◌≡◌, ℕ, ◌≤◌, false, not, ◌⊎◌, List, [], ◌∷◌, ◌++◌, length, sym, refl, ap, ◌∙◌, subst, inl, inr, ⊎_elim, arith, ltb-false}
use Rattle.std.specs.List.{AllByRecursion}
use Rattle.std.proofs.lemmas.List.{nil_from_length}
use Rattle.std.proofs.lemmas.Bool.{cases_eq, cases_Bool, or_cases, and_parts, not-true}
use Rattle.states.specs.Lists.{In, Different, Pairwise}
use Rattle.states.specs.Sums.{sum_of}
use Rattle.states.proofs.Lists.{in_append_left, in_append_right, in_append_cases, all_in, all_from_in, best_sum}
use Rattle.rankings.specs.Exact.{heavier}
use Rattle.rankings.specs.Orders.{ahead, OneWay, StrictOrder}
use Rattle.calls.specs.Law.{Covered, ProperlyCovered}
use Rattle.calls.specs.Stations.{Station, parts, mass_in, Ahead, OnSheet}
use Rattle.calls.proofs.Endings.{Ended, empty, last, ended}

-- whatever is ahead of the last state was handed out before it, or contains a failing one that was
abbrev pub NonePassedOver : Station → List ℕ → Type 0
NonePassedOver w xs = (before : List ℕ) (z : ℕ) → xs ≡ before ++ z ∷ [] → (y : ℕ) → OnSheet w y → Ahead w y z → In y before ⊎ Covered w before y

-- the last member comes after all others
after_all : (R : ℕ → ℕ → Type 0) (before : List ℕ) (z y : ℕ) → Pairwise R (before ++ z ∷ []) → In y before → R y z
after_all R (x ∷ xs) z y p (inl e) = subst (λ v. R v z) e (all_in (R x) (xs ++ z ∷ []) z p.0 (in_append_right xs (z ∷ []) z (inl refl)))
after_all R (x ∷ xs) z y p (inr i) = after_all R xs z y p.1 i
after_all R [] z y p i = absurd i

module _ (w : Station) (one_way : OneWay (parts w) w.outranks) (order : StrictOrder (parts w) (ahead w.outranks))
    (exact : (x y : ℕ) → OnSheet w x → OnSheet w y → w.outranks x y ≡ heavier w.figures x y) where
  -- what is ahead has no smaller mass
  heavier_first : (x y : ℕ) → OnSheet w x → OnSheet w y → Ahead w x y → mass_in w y ≤ mass_in w x
  heavier_first x y x_on y_on a = ltb-false (mass_in w x) (mass_in w y) (sym (exact y x y_on x_on) ∙ not_over)
    where
      not_over : w.outranks y x ≡ false
      not_over = ⊎_elim (λ o. one_way x y x_on y_on o) (λ b. not-true _ (and_parts (not (w.outranks y x)) _ b).0) (or_cases (w.outranks x y) _ a)

  module _ (before : List ℕ) (z : ℕ) (on : AllByRecursion (OnSheet w) (before ++ z ∷ [])) (sorted : Pairwise (Ahead w) (before ++ z ∷ [])) (passed : NonePassedOver w (before ++ z ∷ [])) where
    xs : List ℕ
    xs = before ++ z ∷ []

    z_in : In z (before ++ z ∷ [])
    z_in = in_append_right before (z ∷ []) z (inl refl)

    z_on : OnSheet w z
    z_on = all_in (OnSheet w) (before ++ z ∷ []) z on z_in

    -- the last one is the lightest
    lightest : AllByRecursion (λ h. mass_in w z ≤ mass_in w h) (before ++ z ∷ [])
    lightest = all_from_in _ (before ++ z ∷ []) (λ h i. ⊎_elim (earlier h i) here (in_append_cases before (z ∷ []) h i))
      where
        earlier : (h : ℕ) → In h (before ++ z ∷ []) → In h before → mass_in w z ≤ mass_in w h
        earlier h i j = heavier_first h z (all_in (OnSheet w) (before ++ z ∷ []) h on i) z_on (after_all (Ahead w) before z h sorted j)

        here : {h : ℕ} → In h (z ∷ []) → mass_in w z ≤ mass_in w h
        here (inl e) = omega (arith, ap (mass_in w) e)
        here (inr n) = absurd n

    -- any other that contains no failing one properly is no heavier
    others : (v : ℕ) → OnSheet w v → (ProperlyCovered w (before ++ z ∷ []) v → ⊥) → In v (before ++ z ∷ []) ⊎ (mass_in w v ≤ mass_in w z)
    others v v-on free = ⊎_elim (λ e. inl (subst (λ u. In u (before ++ z ∷ [])) (sym e) z_in)) apart (cases_eq v z)
      where
        covered : Covered w before v → In v (before ++ z ∷ [])
        covered (x, i, f, inside) =
            ⊎_elim (λ e. subst (λ u. In u (before ++ z ∷ [])) e (in_append_left before (z ∷ []) x i))
            (λ ne. absurd (free (x, in_append_left before (z ∷ []) x i, f, inside, ne)))
            (cases_eq x v)

        apart : (v ≡ z → ⊥) → In v (before ++ z ∷ []) ⊎ (mass_in w v ≤ mass_in w z)
        apart ne =
            ⊎_elim (λ a. inl (⊎_elim (in_append_left before (z ∷ []) v) covered (passed before z refl v v-on a)))
            (λ b. inr (heavier_first z v z_on v-on (order.one_of_two z v z_on v-on (λ e. ne (sym e)) ∙ ap not b)))
            (cases_Bool (ahead w.outranks v z))

  pub heaviest : (xs : List ℕ) → AllByRecursion (OnSheet w) xs → Pairwise (Ahead w) xs → NonePassedOver w xs
      → (zs : List ℕ) → AllByRecursion (OnSheet w) zs → Different zs → length zs ≡ length xs → AllByRecursion (λ z. ProperlyCovered w xs z → ⊥) zs → sum_of (mass_in w) zs ≤ sum_of (mass_in w) xs
  heaviest xs on sorted passed zs zs-on different many free = go (ended xs) on sorted passed many free
    where
      go : {ys : List ℕ} → Ended ys → AllByRecursion (OnSheet w) ys → Pairwise (Ahead w) ys → NonePassedOver w ys → length zs ≡ length ys → AllByRecursion (λ z. ProperlyCovered w ys z → ⊥) zs
          → sum_of (mass_in w) zs ≤ sum_of (mass_in w) ys
      go empty o s p m f = let e = nil_from_length zs m in omega (arith, ap (sum_of (mass_in w)) e)
      go (last before z) o s p m f =
          best_sum (mass_in w) (mass_in w z) (before ++ z ∷ []) zs different m (lightest before z o s p)
          (all_from_in _ zs (λ v i. others before z o s p v (all_in (OnSheet w) zs v zs-on i) (all_in _ zs v f i)))
