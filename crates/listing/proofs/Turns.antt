-- What handing out the foremost state does to the sums that a listing keeps, and to what waits. Assumes nothing.
use Rattle.std.proofs.Common.{◌≡◌, ℕ, ◌+◌, ◌^◌, ◌<◌, ◌≤◌, Bool, true, false, cond, List, [], ◌∷◌, ◌++◌, length, sym, ap, ◌∙◌, subst, refl, inl, inr, mod-eq_of_lt, arith}
use Rattle.std.proofs.lemmas.List.{length-append}
use Rattle.sheet.specs.Parts.{figures_of, count_of}
use Rattle.sheet.specs.declared.sealed.Sheet.{Sheet}
use Rattle.states.specs.Lists.{In, Same}
use Rattle.states.specs.Masses.{total, mass}
use Rattle.states.specs.Steps.{add_step, move_step, share, low, top, agreeing_masses}
use Rattle.states.specs.Sums.{sum_of}
use Rattle.states.specs.Trees.{cone_sum, tree_sum}
use Rattle.states.proofs.Lists.{sum_of_append}
use Rattle.states.proofs.Masses.{Figures}
use Rattle.states.proofs.Sheets.{count_is}
use Rattle.states.proofs.Steps.{left_is, top_le}
use Rattle.states.proofs.Trees.{tree_step, cone_step, steps_within}
use Rattle.calls.specs.Handing.{next_states, Next, handed_out, Foremost}
use Rattle.calls.specs.Stations.{Station, station, parts, up_in, verdict_in, OnSheet}
use Rattle.calls.specs.declared.answers.Verdict.{Verdict}
use Rattle.calls.specs.declared.answers.Verdict.TheVariants.{Up, Down}
use Rattle.listing.specs.Verdicts.{if_up}

-- what a state's tree holds, if it counts as working or not
tree_hand : (n x : ℕ) (h : ℕ → ℕ) (b : Bool) → x < 2 ^ n
    → tree_sum n h x ≡ cond b (h x) (cone_sum n h x) + (sum_of (tree_sum n h) (cond b (add_step n x) []) + sum_of (tree_sum n h) (move_step n x))
tree_hand n x h true on = omega (arith, tree_step n x h on)
tree_hand n x h false on = omega (arith, tree_step n x h on, cone_step n x h on)

share_cone : (qs : List ℕ) → Figures qs → (x : ℕ) → share qs x ≡ cone_sum (length qs) (mass qs) x
unfolding cone_sum agreeing_masses
share_cone qs fig x = left_is qs fig (top (length qs) x) x (top_le (length qs) x)

-- a step, where it is taken
one_step : (b : Bool) (z y : ℕ) → In y (cond b (z ∷ []) []) → cond b (z ∷ []) [] ≡ y ∷ []
one_step true z y (inl e) = ap (λ v. v ∷ []) e
one_step true z y (inr i) = absurd i
one_step false z y i = absurd i

-- what the steps give is of the sheet
added_on : (n x y : ℕ) → x < 2 ^ n → In y (add_step n x) → y < 2 ^ n
added_on n x y on i = (steps_within n x on y (inl (one_step _ _ y i))).0

moved_on : (n x y : ℕ) → x < 2 ^ n → In y (move_step n x) → y < 2 ^ n
moved_on n x y on i = (steps_within n x on y (inr (one_step _ _ y i))).0

-- a step that the code took is to a state of the sheet
pub add_within : (v : Verdict) (n x z : ℕ) (zs : List ℕ) → x < 2 ^ n → zs ≡ z ∷ [] → zs ≡ if_up v (add_step n x) [] → z < 2 ^ n
add_within Up n x z zs on one is = added_on n x z on (subst (λ v. In z v) (sym one ∙ is) (inl refl))
add_within Down n x z zs on one is = absurd (subst (λ v. In z v) (sym one ∙ is) (inl refl))

pub move_within : (n x z : ℕ) (zs : List ℕ) → x < 2 ^ n → zs ≡ z ∷ [] → zs ≡ move_step n x → z < 2 ^ n
move_within n x z zs on one is = moved_on n x z on (subst (λ v. In z v) (sym one ∙ is) (inl refl))

-- a choice by the verdict on x is one by whether the station works in it
by_verdict : {X : Type 0} (b : Bool) (v : Verdict) (p q : X) → v ≡ cond b Up Down → if_up v p q ≡ cond b p q
by_verdict true v p q e = ap (λ u. if_up u p q) e
by_verdict false v p q e = ap (λ u. if_up u p q) e

-- a state of the sheet is what the sheet reads of it
pub read_on_sheet : (s : Sheet) (x : ℕ) → x < 2 ^ count_of s → low (length (figures_of s)) x ≡ x
read_on_sheet s x on = mod-eq_of_lt (subst (λ n. x < 2 ^ n) (sym (count_is s)) on)

-- a state x of the sheet is handed out: of the states zs it waits no more, and what its steps give does, which made zs'
pub record Turn (w : Station) (x : ℕ) (zs zs' : List ℕ) : Type 0 where
  pub figures : Figures w.figures
  pub on_sheet : OnSheet w x
  pub same : Same (x ∷ zs') (cond (up_in w x) (add_step (parts w) x) [] ++ (move_step (parts w) x ++ zs))

-- the turn, in the words of the code
pub turn : (s : Sheet) (works : ℕ → Bool) (outranks : ℕ → ℕ → Bool) (x : ℕ) (zs zs' : List ℕ) (v : Verdict) (added moved : List ℕ) → Figures (figures_of s) → x < 2 ^ count_of s → v ≡ verdict_in (station s works outranks) x
    → added ≡ if_up v (add_step (count_of s) x) [] → moved ≡ move_step (count_of s) x → Same (x ∷ zs') (added ++ (moved ++ zs)) → Turn (station s works outranks) x zs zs'
turn s works outranks x zs zs' v added moved fine on verdict adds moves same =
    let w = station s works outranks in
    let n_is = sym (count_is s) in
    record {
      figures = fine;
      on_sheet = subst (λ n. x < 2 ^ n) n_is on;
      same = subst (λ n. Same (x ∷ zs') (cond (up_in w x) (add_step n x) [] ++ (move_step n x ++ zs))) n_is
          (subst (λ vs. Same (x ∷ zs') (vs ++ (move_step (count_of s) x ++ zs))) (adds ∙ by_verdict (up_in w x) v (add_step (count_of s) x) [] verdict) (subst (λ ms. Same (x ∷ zs') (added ++ (ms ++ zs))) moves same));
    }

module _ {w : Station} {x : ℕ} {zs zs' : List ℕ} (t : Turn w x zs zs') where
  abbrev n : ℕ
  n = parts w

  abbrev b : Bool
  b = up_in w x

  -- every weight of the trees of what waits
  trees : (h : ℕ → ℕ) → cond b (h x) (cone_sum n h x) + sum_of (tree_sum n h) zs' ≡ sum_of (tree_sum n h) zs
  trees h =
      let under = tree_sum n h in
      omega (arith, tree_hand n x h b t.on_sheet, t.same under, sum_of_append under (cond b (add_step n x) []) (move_step n x ++ zs), sum_of_append under (move_step n x) zs)

  -- at least x is taken off the count
  pub one_taken : 1 + sum_of (tree_sum n (λ y. 1)) zs' ≤ sum_of (tree_sum n (λ y. 1)) zs
  one_taken = go b (trees (λ y. 1))
    where
      go : (c : Bool) → cond c 1 (cone_sum (parts w) (λ y. 1) x) + sum_of (tree_sum (parts w) (λ y. 1)) zs' ≡ sum_of (tree_sum (parts w) (λ y. 1)) zs
          → 1 + sum_of (tree_sum (parts w) (λ y. 1)) zs' ≤ sum_of (tree_sum (parts w) (λ y. 1)) zs
      go true h = omega (arith, h)
      go false h = omega (arith, h, cone_step (parts w) x (λ y. 1) t.on_sheet)

  -- what x's mass or share takes off the trees
  pub mass_taken : cond b (mass w.figures x) 0 + cond b 0 (share w.figures x) + sum_of (tree_sum n (mass w.figures)) zs' ≡ sum_of (tree_sum n (mass w.figures)) zs
  mass_taken = go b (trees (mass w.figures))
    where
      go : (c : Bool) → cond c (mass w.figures x) (cone_sum (parts w) (mass w.figures) x) + sum_of (tree_sum (parts w) (mass w.figures)) zs' ≡ sum_of (tree_sum (parts w) (mass w.figures)) zs
          → cond c (mass w.figures x) 0 + cond c 0 (share w.figures x) + sum_of (tree_sum (parts w) (mass w.figures)) zs' ≡ sum_of (tree_sum (parts w) (mass w.figures)) zs
      go true h = omega (arith, h)
      go false h = omega (arith, h, share_cone w.figures t.figures x)

  -- x waits no more, and what begins to wait does
  next_sum : (f : ℕ → ℕ) (c : Bool) → sum_of f (cond c (add_step n x ++ move_step n x) (move_step n x)) ≡ sum_of f (cond c (add_step n x) []) + sum_of f (move_step n x)
  next_sum f true = sum_of_append f (add_step n x) (move_step n x)
  next_sum f false = omega arith

  pub waiting_same : Same (x ∷ zs') (next_states w x ++ zs)
  waiting_same f =
      omega (arith, t.same f, next_sum f b, sum_of_append f (next_states w x) zs, sum_of_append f (cond b (add_step n x) []) (move_step n x ++ zs), sum_of_append f (move_step n x) zs)

-- the states that would wait, in the words of the code
pub would_wait : (s : Sheet) (works : ℕ → Bool) (outranks : ℕ → ℕ → Bool) (x : ℕ) (zs : List ℕ) (v : Verdict) (added moved : List ℕ) → v ≡ verdict_in (station s works outranks) x
    → added ≡ if_up v (add_step (count_of s) x) [] → moved ≡ move_step (count_of s) x → length (next_states (station s works outranks) x ++ zs) ≡ length added + (length moved + length zs)
would_wait s works outranks x zs v added moved verdict adds moves =
    let w = station s works outranks in
    let c = up_in w x in
    let here = adds ∙ by_verdict c v (add_step (count_of s) x) [] verdict in
    omega (arith, length-append (next_states w x) zs, next_many c, ap length here, ap length moves, ap (λ n. length (cond c (add_step n x) [])) (count_is s), ap (λ n. length (move_step n x)) (count_is s))
  where
    next_many : (c : Bool) → length (cond c (add_step (length (figures_of s)) x ++ move_step (length (figures_of s)) x) (move_step (length (figures_of s)) x)) ≡ length (cond c (add_step (length (figures_of s)) x) []) + length (move_step (length (figures_of s)) x)
    next_many true = length-append (add_step (length (figures_of s)) x) (move_step (length (figures_of s)) x)
    next_many false = omega arith

-- a listing's sums after a turn, in the words of the code
module _ (s : Sheet) {works : ℕ → Bool} {outranks : ℕ → ℕ → Bool} {x : ℕ} {zs zs' : List ℕ} (t : Turn (station s works outranks) x zs zs') (v : Verdict) (verdict : v ≡ verdict_in (station s works outranks) x)
    (own : ℕ) (weighed : own ≡ mass (figures_of s) x) (up down up' down' : ℕ) (gains : up' ≡ up + if_up v own 0) (presses : down' ≡ down + if_up v 0 (share (figures_of s) x)) where
  abbrev wins : Bool
  wins = up_in (station s works outranks) x

  gained : up' ≡ up + cond wins (mass (figures_of s) x) 0
  gained = gains ∙ ap (λ k. up + k) (by_verdict wins v own 0 verdict ∙ ap (λ m. cond wins m 0) weighed)

  pressed : down' ≡ down + cond wins 0 (share (figures_of s) x)
  pressed = presses ∙ ap (λ k. down + k) (by_verdict wins v 0 (share (figures_of s) x) verdict)

  pub sums_after : up + down + sum_of (tree_sum (count_of s) (mass (figures_of s))) zs ≡ total → up' + down' + sum_of (tree_sum (count_of s) (mass (figures_of s))) zs' ≡ total
  sums_after sums =
      let taken = subst (λ n. cond wins (mass (figures_of s) x) 0 + cond wins 0 (share (figures_of s) x) + sum_of (tree_sum n (mass (figures_of s))) zs' ≡ sum_of (tree_sum n (mass (figures_of s))) zs) (count_is s) (mass_taken t) in
      omega (arith, taken, sums, gained, pressed)

  pub count_after : (handed : ℕ) → handed + sum_of (tree_sum (count_of s) (λ y. 1)) zs ≤ 2 ^ count_of s → handed + 1 + sum_of (tree_sum (count_of s) (λ y. 1)) zs' ≤ 2 ^ count_of s
  count_after handed count =
      let taken = subst (λ n. 1 + sum_of (tree_sum n (λ y. 1)) zs' ≤ sum_of (tree_sum n (λ y. 1)) zs) (count_is s) (one_taken t) in
      omega (arith, taken, count)

  -- the call as it is defined
  pub handed_next : (handed : ℕ) → Foremost (station s works outranks) (record { waiting = zs; up = up; down = down; handed = handed }) x → length zs' ≤ 1024
      → Next (station s works outranks) (record { waiting = zs; up = up; down = down; handed = handed }) (handed_out x v) (record { waiting = zs'; up = up'; down = down'; handed = handed + 1 })
  handed_next handed foremost few = (record { foremost = foremost; waiting = waiting_same t; up = gained; down = pressed; handed = omega arith }, verdict, few)
