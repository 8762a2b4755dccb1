-- What the accounts of a listing say: where a state is, and what the sums come to. Assumes nothing.
use Rattle.std.proofs.Common.{◌≡◌, ℕ, zero, suc, ◌+◌, ◌^◌, ◌≤◌, Bool, true, false, cond, eqb, ◌⊎◌, List, [], ◌∷◌, sym, refl, ap, ◌∙◌, subst, inl, inr, ⊎_elim, lt_of_lt_of_le, mod-eq_of_lt, arith, pow_mono, ne_eqb, eqb-true}
use Rattle.std.proofs.lemmas.Bool.{cond-true, cond-false, cases_lt}
use Rattle.states.specs.Lists.{In, Different}
use Rattle.states.specs.Masses.{total, mass}
use Rattle.states.specs.Sets.{Within}
use Rattle.states.specs.Steps.{agreeing_masses, top}
use Rattle.states.specs.Sums.{sum_of}
use Rattle.states.specs.Trees.{in_cone, in_tree, cone_sum, tree_sum}
use Rattle.states.proofs.Indicators.{only, only_all, only_tree, only_cone, some_member, counted}
use Rattle.states.proofs.Lists.{all_in, sum_of_same, sum_of_le, count_different}
use Rattle.states.proofs.Masses.{conserved}
use Rattle.states.proofs.Steps.{left_is, top_le}
use Rattle.states.proofs.Sums.{sum_same, sum_nothing}
use Rattle.states.proofs.Trees.{cone_contains, in_own_tree}
use Rattle.structures.specs.Reliability.{working_mass, failing_mass, failing_masses}
use Rattle.structures.proofs.Reliability.{both_sums}
use Rattle.calls.specs.Memories.{Memory}
use Rattle.calls.specs.Stations.{Station, parts, up_in, mass_in, share_in, OnSheet, reliability}
use Rattle.calls.proofs.Invariant.{Lawful, Kept, taken}

-- whatever contains a failing state of the sheet fails
pub fails_above : (w : Station) → Lawful w → (x y : ℕ) → OnSheet w x → OnSheet w y → Within x y → up_in w x ≡ false → up_in w y ≡ false
fails_above w laws x y x_on y_on inside fails = go (up_in w y) refl
  where
    n : ℕ
    n = parts w

    go : (b : Bool) → up_in w y ≡ b → b ≡ false
    go false e = refl
    go true e =
        let y-works : w.works y ≡ true = ap w.works (sym (mod-eq_of_lt y_on)) ∙ e in
        let x-works = laws.contained x y (lt_of_lt_of_le y_on (pow_mono laws.few)) inside y-works in
        sym (ap w.works (mod-eq_of_lt x_on) ∙ x-works) ∙ fails

-- what takes y off: y itself, working, or a failing state whose cone y is in
data Takes (w : Station) (y x : ℕ) : Type 0 where
  itself : x ≡ y → Takes w y x
  covers : up_in w x ≡ false → in_cone (parts w) x y ≡ true → Takes w y x

takes : (w : Station) (y x : ℕ) → OnSheet w y → 1 ≤ taken w (only y) x → Takes w y x
takes w y x y_on h = go (up_in w x) refl h
  where
    go : (b : Bool) → up_in w x ≡ b → 1 ≤ cond b (only y x) (cone_sum (parts w) (only y) x) → Takes w y x
    go true e t = itself (eqb-true x y (counted (eqb x y) t))
    go false e t = covers e (counted (in_cone (parts w) x y) (omega (arith, only_cone (parts w) x y y_on)))

-- every state of the sheet was handed out, or contains a failing one that was, or hangs under one that waits
pub data Where (w : Station) (xs : List ℕ) (l : Memory) (y : ℕ) : Type 0 where
  handed : In y xs → Where w xs l y
  covered : (x : ℕ) → In x xs → up_in w x ≡ false → in_cone (parts w) x y ≡ true → Where w xs l y
  hangs : (z : ℕ) → In z l.waiting → in_tree (parts w) z y ≡ true → Where w xs l y

pub find : (w : Station) (xs : List ℕ) (l : Memory) → Kept w xs l → (y : ℕ) → OnSheet w y → Where w xs l y
find w xs l k y y_on = ⊎_elim out under (cases_one (sum_of (taken w (only y)) xs))
  where
    one : sum_of (taken w (only y)) xs + sum_of (tree_sum (parts w) (only y)) l.waiting ≡ 1
    one = k.accounts (only y) ∙ only_all (parts w) y y_on

    cases_one : (a : ℕ) → (1 ≤ a) ⊎ (a ≡ 0)
    cases_one zero = inr refl
    cases_one (suc a) = inl (omega arith)

    out : 1 ≤ sum_of (taken w (only y)) xs → Where w xs l y
    out h =
        let found = some_member (taken w (only y)) xs h in
        by found.0 found.1 (takes w y found.0 y_on found.2)
      where
        by : (x : ℕ) → In x xs → Takes w y x → Where w xs l y
        by x i (itself e) = handed (subst (λ v. In v xs) e i)
        by x i (covers f c) = covered x i f c

    under : sum_of (taken w (only y)) xs ≡ 0 → Where w xs l y
    under e =
        let found = some_member (tree_sum (parts w) (only y)) l.waiting (omega (arith, one, e)) in
        hangs found.0 found.1 (counted (in_tree (parts w) found.0 y) (omega (arith, found.2, only_tree (parts w) found.0 y y_on)))

module _ (w : Station) (laws : Lawful w) where
  qs : List ℕ
  qs = w.figures

  -- a failing state's cone holds no working mass, and all its mass is failing
  cone_works : (x : ℕ) → OnSheet w x → up_in w x ≡ false → cone_sum (parts w) (working_mass w.works w.figures) x ≡ 0
  unfolding cone_sum
  cone_works x x_on fails = sum_nothing (2 ^ parts w) _ (λ y y_on. none y y_on (in_cone (parts w) x y) refl)
    where
      none : (y : ℕ) → OnSheet w y → (b : Bool) → in_cone (parts w) x y ≡ b → cond b (working_mass w.works w.figures y) 0 ≡ 0
      none y y_on true c = cond-false (up_in w y) _ _ (fails_above w laws x y x_on y_on (cone_contains (parts w) x y x_on c) fails)
      none y y_on false c = refl

  cone_fails : (x : ℕ) → OnSheet w x → up_in w x ≡ false → cone_sum (parts w) (failing_mass w.works w.figures) x ≡ share_in w x
  unfolding cone_sum agreeing_masses
  cone_fails x x_on fails =
      sum_same (2 ^ parts w) _ _ (λ y y_on. all y y_on (in_cone (parts w) x y) refl)
      ∙ sym (left_is w.figures laws.figures (top (parts w) x) x (top_le (parts w) x))
    where
      all : (y : ℕ) → OnSheet w y → (b : Bool) → in_cone (parts w) x y ≡ b → cond b (failing_mass w.works w.figures y) 0 ≡ cond b (mass w.figures y) 0
      all y y_on true c = cond-false (up_in w y) _ _ (fails_above w laws x y x_on y_on (cone_contains (parts w) x y x_on c) fails)
      all y y_on false c = refl

  module _ (xs : List ℕ) (l : Memory) (k : Kept w xs l) where
    up_account : l.up + sum_of (tree_sum (parts w) (working_mass w.works w.figures)) l.waiting ≡ reliability w
    up_account =
        let h = working_mass w.works w.figures in
        let same = sum_of_same (taken w h) (λ x. cond (up_in w x) (mass_in w x) 0) xs (λ x i. by x (all_in (OnSheet w) xs x k.on_sheet i) (up_in w x) refl) in
        omega (arith, k.accounts h, same, k.up_is)
      where
        by : (x : ℕ) → OnSheet w x → (b : Bool) → up_in w x ≡ b
            → cond b (working_mass w.works w.figures x) (cone_sum (parts w) (working_mass w.works w.figures) x) ≡ cond b (mass_in w x) 0
        by x x_on true e = cond-true (up_in w x) _ _ e
        by x x_on false e = cone_works x x_on e

    down_account : l.down + sum_of (tree_sum (parts w) (failing_mass w.works w.figures)) l.waiting ≡ failing_masses w.works w.figures
    down_account =
        let h = failing_mass w.works w.figures in
        let same = sum_of_same (taken w h) (λ x. cond (up_in w x) 0 (share_in w x)) xs (λ x i. by x (all_in (OnSheet w) xs x k.on_sheet i) (up_in w x) refl) in
        omega (arith, k.accounts h, same, k.down_is)
      where
        by : (x : ℕ) → OnSheet w x → (b : Bool) → up_in w x ≡ b
            → cond b (failing_mass w.works w.figures x) (cone_sum (parts w) (failing_mass w.works w.figures) x) ≡ cond b 0 (share_in w x)
        by x x_on true e = cond-true (up_in w x) _ _ e
        by x x_on false e = cone_fails x x_on e

    -- working and failing masses are together the total
    pub all_masses : reliability w + failing_masses w.works w.figures ≡ total
    all_masses = both_sums w.works w.figures (2 ^ parts w) ∙ conserved w.figures laws.figures

    pub up_bound : l.up ≤ reliability w
    up_bound = omega (arith, up_account)

    pub down_bound : l.down + reliability w ≤ total
    down_bound = omega (arith, down_account, all_masses)

    pub up_exact : l.waiting ≡ [] → l.up ≡ reliability w
    up_exact e = omega (arith, up_account, ap (sum_of (tree_sum (parts w) (working_mass w.works w.figures))) e)

    pub down_exact : l.waiting ≡ [] → l.down + reliability w ≡ total
    down_exact e = omega (arith, down_account, all_masses, ap (sum_of (tree_sum (parts w) (failing_mass w.works w.figures))) e)

-- no state waits twice
pub waiting_different : (w : Station) (xs : List ℕ) (l : Memory) → Kept w xs l → Different l.waiting
waiting_different w xs l k = count_different l.waiting (λ y. ⊎_elim (on y) (off y) (cases_lt y (2 ^ parts w)))
  where
    in_itself : (x : ℕ) → OnSheet w x → (b : Bool) (y : ℕ) → eqb x y ≡ b → cond b 1 0 ≤ cond (in_tree (parts w) x y) 1 0
    in_itself x x_on true y e = omega (arith, cond-true {A = ℕ} (in_tree (parts w) x y) 1 0 (subst (λ v. in_tree (parts w) x v ≡ true) (eqb-true x y e) (in_own_tree (parts w) x x_on)))
    in_itself x x_on false y e = omega arith

    on : (y : ℕ) → OnSheet w y → sum_of (λ x. cond (eqb x y) 1 0) l.waiting ≤ 1
    on y y_on =
        let hangs = sum_of_le (only y) (tree_sum (parts w) (only y)) l.waiting
        (λ x i. omega (arith, in_itself x (all_in (OnSheet w) l.waiting x k.waiting_on_sheet i) (eqb x y) y refl, only_tree (parts w) x y y_on)) in
        omega (arith, hangs, k.accounts (only y), only_all (parts w) y y_on)

    off : (y : ℕ) → 2 ^ parts w ≤ y → sum_of (λ x. cond (eqb x y) 1 0) l.waiting ≤ 1
    off y high =
        let none = sum_of_same (only y) (λ x. 0) l.waiting
        (λ x i. cond-false (eqb x y) 1 0 (ne_eqb x y (λ e. let x_on = all_in (OnSheet w) l.waiting x k.waiting_on_sheet i in omega (arith, x_on)))) in
        omega (arith, none, nothing l.waiting)
      where
        nothing : (zs : List ℕ) → sum_of (λ x. 0) zs ≡ 0
        nothing [] = refl
        nothing (z ∷ zs) = omega (arith, nothing zs)
