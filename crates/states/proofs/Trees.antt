-- The tree of states: each state, and what hangs under its two steps, makes up its tree. Assumes nothing.
use Rattle.std.proofs.Common.{◌≡◌, ℕ, zero, suc, pred, ◌+◌, ◌-◌, ◌*◌, ◌/◌, ◌^◌, ◌<◌, ◌≤◌, Bool, true, false, cond, ◌&&◌, eqb, ltb, leb, ◌⊎◌, [], ◌∷◌, sym, refl, ap, ◌∙◌, subst, ap₂, inl, inr, ⊎_elim, mod-lt, mod-eq_of_lt, arith, pow_pos}
use native.Mathlib.Nat.{mod-one, mod-le, two-pow-succ}
use Rattle.std.proofs.lemmas.Bool.{cases_lt, cases_Bool, cond-true, cond-false, and_parts, and_from, and_left, and_right, eq-eqb, eqb-true, le-leb, leb-true, le-ltb, ne_eqb, both_ways}
use Rattle.states.specs.Sets.{bit, Within}
use Rattle.states.specs.Steps.{low, top, add_step, move_step, Leads}
use Rattle.states.specs.Sums.{sum_below, sum_of}
use Rattle.states.specs.Trees.{in_cone, in_tree, cone_sum, tree_sum}
use Rattle.states.proofs.Bits.{bit_low, bit_beyond, low_more}
use Rattle.states.proofs.Masses.{low_above}
use Rattle.states.proofs.Sets.{within_from}
use Rattle.states.proofs.Sums.{sum_same, sum_add, sum_one, sum_swap}
use Rattle.states.proofs.Steps.{top_le, low_below, low_reaches, top_is, by_add, by_move, to_add, to_move, add_within, move_within, after_add, after_move}

-- the weight k of y, where it hangs under z
abbrev hanging : ℕ → ℕ → ℕ → ℕ → ℕ
hanging n y k z = cond (in_tree n z y) k 0

-- y counts once in the cone of x: as x, or under what add gives
abbrev ConeParted : ℕ → ℕ → ℕ → ℕ → Type 0
ConeParted n x y k = cond (in_cone n x y) k 0 ≡ cond (eqb x y) k 0 + sum_of (hanging n y k) (add_step n x)

-- y counts once under x: in its cone, or under what move gives
abbrev TreeParted : ℕ → ℕ → ℕ → ℕ → Type 0
TreeParted n x y k = cond (in_tree n x y) k 0 ≡ cond (in_cone n x y) k 0 + sum_of (hanging n y k) (move_step n x)

-- a weight counts where a holds as often as where b holds or c does, never both
parted : (a b c : Bool) (k : ℕ) → (a ≡ true → (b ≡ true) ⊎ (c ≡ true)) → (b ≡ true → a ≡ true) → (c ≡ true → a ≡ true) → (b ≡ true → c ≡ true → ⊥)
    → cond a k 0 ≡ cond b k 0 + cond c k 0
parted a true true k f g h not-both = absurd (not-both refl refl)
parted a true false k f g h not-both = rw (g refl) (omega arith)
parted a false true k f g h not-both = rw (h refl) (omega arith)
parted true false false k f g h not-both = ⊎_elim (λ t. cc) (λ t. cc) (f refl)
parted false false false k f g h not-both = refl

-- the place of a part that stands alone above the others
low_plus : (l x : ℕ) → x < 2 ^ l → low l (x + 2 ^ l) ≡ x
low_plus l x h =
    let e : zero + l ≡ l = omega arith in
    let s : x + 2 ^ l ≡ 2 ^ l + x = omega arith in
    ap (low l) s ∙ (rw e at (low_above l zero x)) ∙ mod-eq_of_lt h

-- what in_cone and in_tree say
cone_from : (n x y l : ℕ) → top n x ≡ l → low l x ≡ low l y → in_cone n x y ≡ true
cone_from n x y l is e = rw is (eq-eqb _ _ e)

cone_says : (n x y l : ℕ) → top n x ≡ l → in_cone n x y ≡ true → low l x ≡ low l y
cone_says n x y l is t = eqb-true _ _ (rw is at t)

half_power : (m : ℕ) → 2 ^ suc m / 2 ≡ 2 ^ m
half_power m = omega (arith, two-pow-succ m)

tree_from : (n x y m : ℕ) → top n x ≡ suc m → low m x ≡ low m y → 2 ^ m ≤ y → in_tree n x y ≡ true
tree_from n x y m is e le = rw (is, half_power m) (and_from _ _ (eq-eqb _ _ e) (le-leb _ _ le))

tree_says : (n x y m : ℕ) → top n x ≡ suc m → in_tree n x y ≡ true → (low m x ≡ low m y) × (2 ^ m ≤ y)
tree_says n x y m is t =
    let both = and_parts (eqb (low m x) (low m y)) (leb (2 ^ m) y) (rw (is, half_power m) at t) in
    (eqb-true _ _ both.0, leb-true _ _ both.1)

-- everything hangs under the state with no part
root_tree : (n x y : ℕ) → top n x ≡ 0 → in_tree n x y ≡ true
root_tree n x y is = rw is (and_from _ _ (eq-eqb _ _ (mod-one x ∙ sym (mod-one y))) (le-leb 0 y (omega arith)))

root_cone : (n x y : ℕ) → top n x ≡ 0 → in_cone n x y ≡ true
root_cone n x y is = cone_from n x y 0 is (mod-one x ∙ sym (mod-one y))

-- a state of the sheet reaches up to its greatest part
module _ (n x : ℕ) (on_sheet : x < 2 ^ n) where
  reads : low n x ≡ x
  reads = mod-eq_of_lt on_sheet

  under : x < 2 ^ top n x
  under = rw reads at (low_below n x)

  over : 2 ^ top n x ≤ 2 * x + 1
  over = rw reads at (low_reaches n x)

  no_add : n ≤ top n x → add_step n x ≡ []
  no_add h = cond-false (ltb (top n x) n) _ _ (le-ltb _ _ h)

  no_move : (top n x ≡ 0) ⊎ (n ≤ top n x) → move_step n x ≡ []
  no_move h =
      cond-false (ltb 0 (top n x) && ltb (top n x) n) _ _
      (⊎_elim (λ (e : top n x ≡ 0). and_left _ _ (le-ltb 0 (top n x) (omega arith))) (λ (k : n ≤ top n x). and_right (ltb 0 (top n x)) _ (le-ltb (top n x) n k)) h)

  -- the steps stay on the sheet, and give one greatest part more
  pub steps_within : (z : ℕ) → Leads n x z → (z < 2 ^ n) × (top n z ≡ suc (top n x))
  steps_within z = ⊎_elim added moved
    where
      added : add_step n x ≡ z ∷ [] → (z < 2 ^ n) × (top n z ≡ suc (top n x))
      added s =
          let found = by_add n x z on_sheet s in
          let fits : x + 2 ^ top n x < 2 ^ n = rw reads at (add_within n x found.0) in
          rw found.1 (fits, after_add n x (top n x) on_sheet fits refl)

      moved : move_step n x ≡ z ∷ [] → (z < 2 ^ n) × (top n z ≡ suc (top n x))
      moved s =
          let found = by_move n x z on_sheet s in
          let m = found.0 in
          let fits : x + 2 ^ m < 2 ^ n = rw reads at (move_within n x m found.1 found.2) in
          rw (found.3, found.1) (fits, after_move n x m on_sheet fits found.1)

  -- and lead to greater numbers
  pub steps_grow : (z : ℕ) → Leads n x z → x < z
  steps_grow z =
      ⊎_elim (λ s. omega (arith, (by_add n x z on_sheet s).1, pow_pos (top n x)))
      (λ s. let found = by_move n x z on_sheet s in omega (arith, found.3, pow_pos found.0))

-- y in the cone of x is x, or it hangs under what add gives
cone_few : (n x y : ℕ) → x < 2 ^ n → y < 2 ^ top n x → in_cone n x y ≡ true → x ≡ y
cone_few n x y on_sheet few t = sym (mod-eq_of_lt (under n x on_sheet)) ∙ cone_says n x y (top n x) refl t ∙ mod-eq_of_lt few

module _ (n x y z : ℕ) (on_sheet : x < 2 ^ n) (s : add_step n x ≡ z ∷ []) where
  added_top : top n z ≡ suc (top n x)
  added_top = (steps_within n x on_sheet z (inl s)).1

  added_low : low (top n x) z ≡ low (top n x) x
  added_low =
      ap (low (top n x)) (by_add n x z on_sheet s).1 ∙ low_plus (top n x) x (under n x on_sheet) ∙ sym (mod-eq_of_lt (under n x on_sheet))

  cone_parts : in_cone n x y ≡ true → (eqb x y ≡ true) ⊎ (in_tree n z y ≡ true)
  cone_parts t =
      ⊎_elim (λ h. inl (eq-eqb x y (cone_few n x y on_sheet h t)))
      (λ h. inr (tree_from n z y (top n x) added_top (added_low ∙ cone_says n x y (top n x) refl t) h))
      (cases_lt y (2 ^ top n x))

  add_in_cone : in_tree n z y ≡ true → in_cone n x y ≡ true
  add_in_cone t = cone_from n x y (top n x) refl (sym added_low ∙ (tree_says n z y (top n x) added_top t).0)

  add_apart : eqb x y ≡ true → in_tree n z y ≡ true → ⊥
  add_apart e t = omega (arith, under n x on_sheet, eqb-true x y e, (tree_says n z y (top n x) added_top t).1)

cone_point : (n x y k : ℕ) → x < 2 ^ n → y < 2 ^ n → ConeParted n x y k
cone_point n x y k on_sheet y_on = ⊎_elim room full (cases_lt (top n x) n)
  where
    itself : eqb x y ≡ true → in_cone n x y ≡ true
    itself e = eq-eqb _ _ (ap (low (top n x)) (eqb-true x y e))

    room : top n x < n → ConeParted n x y k
    room h =
        let z : ℕ = x + 2 ^ top n x in
        let s : add_step n x ≡ z ∷ [] = to_add n x z on_sheet h refl in
        let w = ap (sum_of (hanging n y k)) s in
        let p = parted (in_cone n x y) (eqb x y) (in_tree n z y) k (cone_parts n x y z on_sheet s) itself (add_in_cone n x y z on_sheet s) (add_apart n x y z on_sheet s) in
        omega arith

    full : n ≤ top n x → ConeParted n x y k
    full h =
        let is : n ≡ top n x = omega (arith, top_le n x) in
        let few : y < 2 ^ top n x = subst (λ j. y < 2 ^ j) is y_on in
        let w = ap (sum_of (hanging n y k)) (no_add n x on_sheet h) in
        let p = parted (in_cone n x y) (eqb x y) false k (λ t. inl (eq-eqb x y (cone_few n x y on_sheet few t))) itself (λ f. cc) (λ e f. let q : ◌≡◌ {A = ℕ} 0 1 = cc in omega arith) in
        omega arith

-- y under x is in its cone, or it hangs under what move gives
module _ (n x y m : ℕ) (on_sheet : x < 2 ^ n) (is : top n x ≡ suc m) where
  from : 2 ^ m ≤ x
  from = omega (arith, rw is at (over n x on_sheet), two-pow-succ m)

  to : x < 2 ^ suc m
  to = rw is at (under n x on_sheet)

  rest : low m x ≡ x - 2 ^ m
  rest =
      let e : x ≡ (x - 2 ^ m) + 2 ^ m = omega (arith, from) in
      ap (low m) e ∙ low_plus m (x - 2 ^ m) (omega (arith, from, to, two-pow-succ m))

  whole : low (suc m) x ≡ x
  whole = mod-eq_of_lt to

  place : (low (suc m) y ≡ low m y) ⊎ (low (suc m) y ≡ 2 ^ m + low m y)
  place = ⊎_elim (λ t. inr (low_more m y ∙ cond-true (bit m y) _ _ t)) (λ t. inl (low_more m y ∙ cond-false (bit m y) _ _ t)) (cases_Bool (bit m y))

  small : low m y < 2 ^ m
  small = mod-lt y (pow_pos m)

  tree_parts : in_tree n x y ≡ true → (in_cone n x y ≡ true) ⊎ ((low (suc m) y ≡ x - 2 ^ m) × (2 ^ suc m ≤ y))
  tree_parts t =
      let says = tree_says n x y m is t in
      ⊎_elim
      (λ (e : low (suc m) y ≡ low m y). inr (e ∙ sym says.0 ∙ rest, ⊎_elim (λ (h : y < 2 ^ suc m). absurd (let r : low (suc m) y ≡ y = mod-eq_of_lt h in omega (arith, says.1, small))) (λ h. h) (cases_lt y (2 ^ suc m))))
      (λ (e : low (suc m) y ≡ 2 ^ m + low m y). inl (cone_from n x y (suc m) is (omega (arith, whole, rest, says.0, from))))
      place

  cone_under : in_cone n x y ≡ true → in_tree n x y ≡ true
  cone_under t =
      let says = cone_says n x y (suc m) is t in
      ⊎_elim
      (λ (e : low (suc m) y ≡ low m y). absurd (omega (arith, whole, small, from)))
      (λ (e : low (suc m) y ≡ 2 ^ m + low m y). tree_from n x y m is (omega (arith, whole, rest, from)) (omega (arith, mod-le y (2 ^ suc m))))
      place

  module _ (w : ℕ) (s : move_step n x ≡ w ∷ []) where
    moved_top : top n w ≡ suc (suc m)
    moved_top = (steps_within n x on_sheet w (inr s)).1 ∙ ap suc is

    moved_low : low (suc m) w ≡ x - 2 ^ m
    moved_low =
        let found = by_move n x w on_sheet s in
        let same : suc found.0 ≡ suc m = sym found.1 ∙ is in
        let power : 2 ^ found.0 ≡ 2 ^ m = ap (λ j. 2 ^ pred j) same in
        let e : w ≡ (x - 2 ^ m) + 2 ^ suc m = omega (arith, found.3, from, two-pow-succ m) in
        ap (low (suc m)) e ∙ low_plus (suc m) (x - 2 ^ m) (omega (arith, to))

    move_parts : in_tree n x y ≡ true → (in_cone n x y ≡ true) ⊎ (in_tree n w y ≡ true)
    move_parts t = ⊎_elim (λ c. inl c) (λ b. inr (tree_from n w y (suc m) moved_top (moved_low ∙ sym b.0) b.1)) (tree_parts t)

    move_under : in_tree n w y ≡ true → in_tree n x y ≡ true
    move_under t =
        let says = tree_says n w y (suc m) moved_top t in
        ⊎_elim
        (λ (e : low (suc m) y ≡ low m y). tree_from n x y m is (omega (arith, says.0, moved_low, rest)) (omega (arith, says.1, two-pow-succ m)))
        (λ (e : low (suc m) y ≡ 2 ^ m + low m y). absurd (omega (arith, says.0, moved_low, to, two-pow-succ m)))
        place

    move_apart : in_cone n x y ≡ true → in_tree n w y ≡ true → ⊥
    move_apart c t = omega (arith, cone_says n x y (suc m) is c, whole, (tree_says n w y (suc m) moved_top t).0, moved_low, from, pow_pos m)

  last_parts : n ≤ suc m → y < 2 ^ n → in_tree n x y ≡ true → in_cone n x y ≡ true
  last_parts h y_on t =
      let e : n ≡ suc m = omega (arith, top_le n x) in
      let few : y < 2 ^ suc m = subst (λ j. y < 2 ^ j) e y_on in
      ⊎_elim (λ c. c) (λ b. absurd (omega (arith, b.1))) (tree_parts t)

-- the tree of x: its cone, and the tree of what move gives
tree_point : (n x y k : ℕ) → x < 2 ^ n → y < 2 ^ n → TreeParted n x y k
tree_point n x y k on_sheet y_on = go (top n x) refl
  where
    go : (l : ℕ) → top n x ≡ l → TreeParted n x y k
    go zero is =
        let w = ap (sum_of (hanging n y k)) (no_move n x on_sheet (inl is)) in
        let a = cond-true (in_tree n x y) k 0 (root_tree n x y is) in
        let b = cond-true (in_cone n x y) k 0 (root_cone n x y is) in
        omega arith
    go (suc m) is = ⊎_elim room full (cases_lt (suc m) n)
      where
        room : suc m < n → TreeParted n x y k
        room h =
            let z : ℕ = x + 2 ^ m in
            let s : move_step n x ≡ z ∷ [] = to_move n x z on_sheet m is h refl in
            let w = ap (sum_of (hanging n y k)) s in
            let p = parted (in_tree n x y) (in_cone n x y) (in_tree n z y) k (move_parts n x y m on_sheet is z s) (cone_under n x y m on_sheet is) (move_under n x y m on_sheet is z s) (move_apart n x y m on_sheet is z s) in
            omega arith

        full : n ≤ suc m → TreeParted n x y k
        full h =
            let w = ap (sum_of (hanging n y k)) (no_move n x on_sheet (inr (omega arith))) in
            let p = parted (in_tree n x y) (in_cone n x y) false k (λ t. inl (last_parts n x y m on_sheet is h y_on t)) (cone_under n x y m on_sheet is) (λ f. cc) (λ e f. let q : ◌≡◌ {A = ℕ} 0 1 = cc in omega arith) in
            omega arith

-- the sums
pub cone_step : (n x : ℕ) (h : ℕ → ℕ) → x < 2 ^ n → cone_sum n h x ≡ h x + sum_of (tree_sum n h) (add_step n x)
unfolding cone_sum tree_sum
cone_step n x h on_sheet =
    sum_same (2 ^ n) _ _ (λ y y_on. cone_point n x y (h y) on_sheet y_on)
    ∙ sum_add (2 ^ n) (λ y. cond (eqb x y) (h y) 0) (λ y. sum_of (hanging n y (h y)) (add_step n x))
    ∙ ap₂ (◌+◌)
    (sum_one (2 ^ n) x (λ y. cond (eqb x y) (h y) 0) on_sheet (λ y y_on ne. cond-false (eqb x y) (h y) 0 (ne_eqb x y (λ e. ne (sym e))))
    ∙ cond-true (eqb x x) (h x) 0 (eq-eqb x x refl))
    (sum_swap (2 ^ n) (λ z y. hanging n y (h y) z) (add_step n x))

move_sum : (n x : ℕ) (h : ℕ → ℕ) → x < 2 ^ n → tree_sum n h x ≡ cone_sum n h x + sum_of (tree_sum n h) (move_step n x)
unfolding cone_sum tree_sum
move_sum n x h on_sheet =
    sum_same (2 ^ n) _ _ (λ y y_on. tree_point n x y (h y) on_sheet y_on)
    ∙ sum_add (2 ^ n) (λ y. cond (in_cone n x y) (h y) 0) (λ y. sum_of (hanging n y (h y)) (move_step n x))
    ∙ ap (λ k. sum_below (2 ^ n) (λ y. cond (in_cone n x y) (h y) 0) + k) (sum_swap (2 ^ n) (λ z y. hanging n y (h y) z) (move_step n x))

pub tree_step : (n x : ℕ) (h : ℕ → ℕ) → x < 2 ^ n → tree_sum n h x ≡ h x + (sum_of (tree_sum n h) (add_step n x) + sum_of (tree_sum n h) (move_step n x))
tree_step n x h on_sheet = omega (arith, move_sum n x h on_sheet, cone_step n x h on_sheet)

-- every state hangs under the state with no part
pub whole_tree : (n : ℕ) (h : ℕ → ℕ) → tree_sum n h 0 ≡ sum_below (2 ^ n) h
unfolding tree_sum
whole_tree n h =
    let none : top n 0 ≡ 0 = top_is n 0 0 (pow_pos n) (omega arith) (omega arith) in
    sum_same (2 ^ n) _ h (λ y y_on. cond-true (in_tree n 0 y) (h y) 0 (root_tree n 0 y none))

-- a state is in its own cone, and under itself
pub in_own_cone : (n x : ℕ) → in_cone n x x ≡ true
in_own_cone n x = eq-eqb _ _ refl

pub cone_in_tree : (n x y : ℕ) → x < 2 ^ n → y < 2 ^ n → in_cone n x y ≡ true → in_tree n x y ≡ true
cone_in_tree n x y on_sheet y_on t = go (top n x) refl
  where
    go : (l : ℕ) → top n x ≡ l → in_tree n x y ≡ true
    go zero is = root_tree n x y is
    go (suc m) is = cone_under n x y m on_sheet is t

pub in_own_tree : (n x : ℕ) → x < 2 ^ n → in_tree n x x ≡ true
in_own_tree n x on_sheet = cone_in_tree n x x on_sheet on_sheet (in_own_cone n x)

-- the states of a cone contain its first
pub cone_contains : (n x y : ℕ) → x < 2 ^ n → in_cone n x y ≡ true → Within x y
cone_contains n x y on_sheet t = within_from x y holds
  where
    holds : (k : ℕ) → bit k x ≡ true → bit k y ≡ true
    holds k b =
        ⊎_elim
        (λ (h : k < top n x). sym (bit_low k (top n x) y h) ∙ ap (bit k) (sym (cone_says n x y (top n x) refl t)) ∙ bit_low k (top n x) x h ∙ b)
        (λ (h : top n x ≤ k). absurd (both_ways (bit k x) (bit_beyond k (top n x) x h (under n x on_sheet)) b))
        (cases_lt k (top n x))

-- y is x, or hangs under a state to which a step from x leads
abbrev pub ItselfOrNext : ℕ → ℕ → ℕ → Type 0
ItselfOrNext n x y = (x ≡ y) ⊎ ((z : ℕ) × Leads n x z × (in_tree n z y ≡ true))

cone_cases : (n x y : ℕ) → x < 2 ^ n → y < 2 ^ n → in_cone n x y ≡ true → ItselfOrNext n x y
cone_cases n x y on_sheet y_on t = ⊎_elim room full (cases_lt (top n x) n)
  where
    room : top n x < n → ItselfOrNext n x y
    room h =
        let z : ℕ = x + 2 ^ top n x in
        let s : add_step n x ≡ z ∷ [] = to_add n x z on_sheet h refl in
        ⊎_elim (λ e. inl (eqb-true x y e)) (λ u. inr (z, inl s, u)) (cone_parts n x y z on_sheet s t)

    full : n ≤ top n x → ItselfOrNext n x y
    full h =
        let is : n ≡ top n x = omega (arith, top_le n x) in
        inl (cone_few n x y on_sheet (subst (λ j. y < 2 ^ j) is y_on) t)

pub tree_cases : (n x y : ℕ) → x < 2 ^ n → y < 2 ^ n → in_tree n x y ≡ true → ItselfOrNext n x y
tree_cases n x y on_sheet y_on t = go (top n x) refl
  where
    go : (l : ℕ) → top n x ≡ l → ItselfOrNext n x y
    go zero is = cone_cases n x y on_sheet y_on (root_cone n x y is)
    go (suc m) is = ⊎_elim room full (cases_lt (suc m) n)
      where
        room : suc m < n → ItselfOrNext n x y
        room h =
            let z : ℕ = x + 2 ^ m in
            let s : move_step n x ≡ z ∷ [] = to_move n x z on_sheet m is h refl in
            ⊎_elim (λ c. cone_cases n x y on_sheet y_on c) (λ u. inr (z, inr s, u)) (move_parts n x y m on_sheet is z s t)

        full : n ≤ suc m → ItselfOrNext n x y
        full h = cone_cases n x y on_sheet y_on (last_parts n x y m on_sheet is h y_on t)
