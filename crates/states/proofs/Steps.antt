-- The steps between states. Assumes nothing.
use Rattle.std.proofs.Common.{◌≡◌, ℕ, zero, suc, pred, ◌+◌, ◌-◌, ◌*◌, ◌/◌, ◌^◌, ◌<◌, ◌≤◌, Bool, true, false, cond, ◌&&◌, ◌||◌, eqb, ltb, List, [], ◌∷◌, length, sym, refl, ap, ◌∙◌, subst, inl, inr, ⊎_elim, lt_of_lt_of_le, mod-lt, mod-eq_of_lt, arith, pow_pos, pow_mono, ltb-false, ltb-true, le-ltb, lt-ltb, eq-eqb, ne_eqb}
use mathlib.Core.Bool.{or-false}
use native.Mathlib.Nat.{two-pow-succ}
use lib.Count.{count_leading_zeros, leading_unique}
use Rattle.std.proofs.lemmas.Bool.{cases_lt, cond-true, cond-false, cond_both, and_parts, and_from, or_from, or_right}
use Rattle.states.specs.Masses.{after}
use Rattle.states.specs.Sets.{bit, with_part, without_part}
use Rattle.states.specs.Steps.{low, top, add_step, move_step, agreeing_masses, Leads, Parent}
use Rattle.sheet.specs.Parts.{figures_of, count_of}
use Rattle.sheet.specs.declared.sealed.Sheet.{Sheet}
use Rattle.states.proofs.Masses.{Figures, figures_fine, spread}
use Rattle.states.proofs.Sheets.{count_is}
use Rattle.states.proofs.Sets.{bit_added}
use Rattle.states.proofs.Bits.{bit_beyond, bit_highest, low_more}

pub top_le : (n x : ℕ) → top n x ≤ n
unfolding top
top_le zero x = omega arith
top_le (suc n) x = go (bit n x) (top_le n x)
  where
    go : (b : Bool) → top n x ≤ n → cond b (suc n) (top n x) ≤ suc n
    go true ih = omega arith
    go false ih = omega arith

-- the lowest places end at the greatest part
pub low_below : (n x : ℕ) → low n x < 2 ^ top n x
unfolding top
low_below zero x = mod-lt x (pow_pos 0)
low_below (suc n) x = rw (low_more n x) (go (bit n x) (low_below n x))
  where
    go : (b : Bool) → low n x < 2 ^ top n x → cond b (2 ^ n + low n x) (low n x) < 2 ^ cond b (suc n) (top n x)
    go true ih = omega (arith, two-pow-succ n, mod-lt x (pow_pos n))
    go false ih = ih

pub low_reaches : (n x : ℕ) → 2 ^ top n x ≤ 2 * low n x + 1
unfolding top
low_reaches zero x = omega arith
low_reaches (suc n) x = rw (low_more n x) (go (bit n x) (low_reaches n x))
  where
    go : (b : Bool) → 2 ^ top n x ≤ 2 * low n x + 1 → 2 ^ cond b (suc n) (top n x) ≤ 2 * cond b (2 ^ n + low n x) (low n x) + 1
    go true ih = omega (arith, two-pow-succ n)
    go false ih = ih

-- it is the only such place
reach_le : (k j y : ℕ) → 2 ^ k ≤ 2 * y + 1 → y < 2 ^ j → k ≤ j
reach_le k j y up down = ⊎_elim (λ (h : j < k). absurd (omega (arith, pow_mono h, two-pow-succ j))) (λ h. h) (cases_lt j k)

pub top_is : (n k y : ℕ) → y < 2 ^ n → y < 2 ^ k → 2 ^ k ≤ 2 * y + 1 → top n y ≡ k
top_is n k y on_sheet down up =
    let e : low n y ≡ y = mod-eq_of_lt on_sheet in
    let a = reach_le (top n y) k y (rw e at (low_reaches n y)) down in
    let b = reach_le k (top n y) y up (rw e at (low_below n y)) in
    omega arith

-- the numbers of the two steps
pub add_number : (n x : ℕ) → with_part (suc (top n x)) (low n x) ≡ low n x + 2 ^ top n x
unfolding with_part
add_number n x = cond-false (bit (top n x) (low n x)) _ _ (bit_beyond (top n x) (top n x) (low n x) (omega arith) (low_below n x))

moved : (z m : ℕ) → z < 2 ^ suc m → 2 ^ suc m ≤ 2 * z + 1 → with_part (suc (suc m)) (without_part (suc m) z) ≡ z + 2 ^ m
unfolding with_part without_part
moved z m down up =
    let has-m : bit m z ≡ true = bit_highest m z (omega (arith, two-pow-succ m)) down in
    let taken : cond (bit m z) (z - 2 ^ m) z ≡ z - 2 ^ m = cond-true (bit m z) _ _ has-m in
    let below : z - 2 ^ m < 2 ^ suc m = omega arith in
    rw taken (cond-false (bit (suc m) (z - 2 ^ m)) _ _ (bit_beyond (suc m) (suc m) (z - 2 ^ m) (omega arith) below) ∙ omega (arith, two-pow-succ m))

pub move_number : (n x m : ℕ) → top n x ≡ suc m → with_part (suc (top n x)) (without_part (top n x) (low n x)) ≡ low n x + 2 ^ m
move_number n x m e =
    let down = rw e at (low_below n x) in
    let up = rw e at (low_reaches n x) in
    rw e (moved (low n x) m down up)

-- both stay on the sheet
pub add_within : (n x : ℕ) → top n x < n → low n x + 2 ^ top n x < 2 ^ n
add_within n x h = omega (arith, low_below n x, two-pow-succ (top n x), pow_mono h)

pub move_within : (n x m : ℕ) → top n x ≡ suc m → suc m < n → low n x + 2 ^ m < 2 ^ n
move_within n x m e h =
    let down = rw e at (low_below n x) in
    omega (arith, down, two-pow-succ m, two-pow-succ (suc m), pow_mono h)

-- what a step from a state of the sheet gives
module _ (n z y : ℕ) (on_sheet : z < 2 ^ n) where
  same : low n z ≡ z
  same = mod-eq_of_lt on_sheet

  pub by_add : add_step n z ≡ y ∷ [] → (top n z < n) × (y ≡ z + 2 ^ top n z)
  by_add s = go (ltb (top n z) n) refl s
    where
      go : (b : Bool) → ltb (top n z) n ≡ b → cond b (with_part (suc (top n z)) (low n z) ∷ []) [] ≡ y ∷ [] → (top n z < n) × (y ≡ z + 2 ^ top n z)
      go true t e = (ltb-true _ _ t, (let h : y ≡ with_part (suc (top n z)) (low n z) = cc in h) ∙ add_number n z ∙ ap (λ w. w + 2 ^ top n z) same)
      go false t e = absurd (let w : ◌≡◌ {A = ℕ} 0 1 = cc in omega arith)

  pub by_move : move_step n z ≡ y ∷ [] → (m : ℕ) × (top n z ≡ suc m) × (suc m < n) × (y ≡ z + 2 ^ m)
  by_move s = go (ltb 0 (top n z) && ltb (top n z) n) refl s
    where
      go : (b : Bool) → (ltb 0 (top n z) && ltb (top n z) n) ≡ b → cond b (with_part (suc (top n z)) (without_part (top n z) (low n z)) ∷ []) [] ≡ y ∷ []
          → (m : ℕ) × (top n z ≡ suc m) × (suc m < n) × (y ≡ z + 2 ^ m)
      go true t e =
          let both = and_parts (ltb 0 (top n z)) (ltb (top n z) n) t in
          let some = ltb-true _ _ both.0 in
          let m : ℕ = pred (top n z) in
          let is : top n z ≡ suc m = omega arith in
          let h : y ≡ with_part (suc (top n z)) (without_part (top n z) (low n z)) = cc in
          (m, is, omega (arith, ltb-true _ _ both.1), h ∙ move_number n z m is ∙ ap (λ w. w + 2 ^ m) same)
      go false t e = absurd (let w : ◌≡◌ {A = ℕ} 0 1 = cc in omega arith)

  pub to_add : top n z < n → y ≡ z + 2 ^ top n z → add_step n z ≡ y ∷ []
  to_add h e =
      cond-true (ltb (top n z) n) _ _ (lt-ltb (top n z) n h)
      ∙ ap (λ w. w ∷ []) (add_number n z ∙ ap (λ w. w + 2 ^ top n z) same ∙ sym e)

  pub to_move : (m : ℕ) → top n z ≡ suc m → suc m < n → y ≡ z + 2 ^ m → move_step n z ≡ y ∷ []
  to_move m is h e =
      cond-true (ltb 0 (top n z) && ltb (top n z) n) _ _ (and_from _ _ (lt-ltb 0 (top n z) (omega arith)) (lt-ltb (top n z) n (omega arith)))
      ∙ ap (λ w. w ∷ []) (move_number n z m is ∙ ap (λ w. w + 2 ^ m) same ∙ sym e)

-- y without its greatest part, which is t + 1, and with part t where it lacks that
abbrev pub back : ℕ → ℕ → ℕ
back t y = cond (ltb (y - 2 ^ t) (2 ^ t / 2)) (y - 2 ^ t + 2 ^ t / 2) (y - 2 ^ t)

-- the greatest part after a step
pub after_add : (n z t : ℕ) → z < 2 ^ n → z + 2 ^ t < 2 ^ n → top n z ≡ t → top n (z + 2 ^ t) ≡ suc t
after_add n z t h on_sheet e =
    let down = rw (mod-eq_of_lt h, e) at (low_below n z) in
    top_is n (suc t) (z + 2 ^ t) on_sheet (omega (arith, two-pow-succ t)) (omega (arith, two-pow-succ t))

pub after_move : (n z m : ℕ) → z < 2 ^ n → z + 2 ^ m < 2 ^ n → top n z ≡ suc m → top n (z + 2 ^ m) ≡ suc (suc m)
after_move n z m h on_sheet e =
    let down = rw (mod-eq_of_lt h, e) at (low_below n z) in
    let up = rw (mod-eq_of_lt h, e) at (low_reaches n z) in
    top_is n (suc (suc m)) (z + 2 ^ m) on_sheet
    (omega (arith, two-pow-succ m, two-pow-succ (suc m)))
    (omega (arith, two-pow-succ m, two-pow-succ (suc m)))

-- the only state from which a step leads to y
module _ (n t y : ℕ) (on_sheet : y < 2 ^ n) (is : top n y ≡ suc t) where
  back_add : (z : ℕ) → z < 2 ^ n → add_step n z ≡ y ∷ [] → z ≡ back t y
  back_add z h s =
      let k = top n z in
      let e = (by_add n z y h s).1 in
      let next : suc k ≡ suc t = sym (after_add n z k h (omega arith) refl) ∙ ap (top n) (sym e) ∙ is in
      let place : k ≡ t = omega arith in
      let power : 2 ^ k ≡ 2 ^ t = ap (λ j. 2 ^ j) place in
      let up = rw (mod-eq_of_lt h) at (low_reaches n z) in
      let z-is : z ≡ y - 2 ^ t = omega arith in
      z-is ∙ sym (cond-false (ltb (y - 2 ^ t) (2 ^ t / 2)) _ _ (le-ltb _ _ (omega arith)))

  back_move : (z : ℕ) → z < 2 ^ n → move_step n z ≡ y ∷ [] → z ≡ back t y
  back_move z h s =
      let found = by_move n z y h s in
      let m = found.0 in
      let e = found.3 in
      let next : suc (suc m) ≡ suc t = sym (after_move n z m h (omega arith) found.1) ∙ ap (top n) (sym e) ∙ is in
      let place : suc m ≡ t = omega arith in
      let power : 2 ^ suc m ≡ 2 ^ t = ap (λ j. 2 ^ j) place in
      let down = rw (mod-eq_of_lt h, found.1) at (low_below n z) in
      let up = rw (mod-eq_of_lt h, found.1) at (low_reaches n z) in
      let z-is : z ≡ y - 2 ^ t + 2 ^ t / 2 = omega (arith, two-pow-succ m) in
      z-is ∙ sym (cond-true (ltb (y - 2 ^ t) (2 ^ t / 2)) _ _ (lt-ltb _ _ (omega (arith, two-pow-succ m))))

-- and a step does lead from there
from_move : (n t y : ℕ) → y < 2 ^ n → 2 ^ t ≤ y → suc t ≤ n → y - 2 ^ t < 2 ^ t / 2 → move_step n (y - 2 ^ t + 2 ^ t / 2) ≡ y ∷ []
from_move n zero y on_sheet up inside h = absurd (omega arith)
from_move n (suc m) y on_sheet up inside h =
    let z : ℕ = y - 2 ^ suc m + 2 ^ suc m / 2 in
    let p = two-pow-succ m in
    let z_on : z < 2 ^ n = omega arith in
    to_move n z y z_on m (top_is n (suc m) z z_on (omega arith) (omega arith)) inside (omega arith)

from_add : (n t y : ℕ) → y < 2 ^ n → 2 ^ t ≤ y → y < 2 ^ suc t → suc t ≤ n → 2 ^ t / 2 ≤ y - 2 ^ t → add_step n (y - 2 ^ t) ≡ y ∷ []
from_add n t y on_sheet up down inside h =
    let z : ℕ = y - 2 ^ t in
    let p = two-pow-succ t in
    let z_on : z < 2 ^ n = omega arith in
    let place : top n z ≡ t = top_is n t z z_on (omega arith) (omega arith) in
    to_add n z y z_on (omega arith) (rw place (omega arith))

pub parent : (n t y : ℕ) → y < 2 ^ n → top n y ≡ suc t → Parent n y (back t y)
parent n t y on_sheet is =
    let up = rw (mod-eq_of_lt on_sheet, is) at (low_reaches n y) in
    let down = rw (mod-eq_of_lt on_sheet, is) at (low_below n y) in
    let inside = rw is at (top_le n y) in
    let p = two-pow-succ t in
    let below : back t y < y = by_cases (λ z. z < y) (λ h. omega (arith, pow_pos t)) (λ h. omega (arith, pow_pos t)) in
    record {
      on_sheet = omega arith;
      other = λ e. omega arith;
      leads = by_cases (λ z. Leads n z y)
          (λ h. inr (from_move n t y on_sheet (omega arith) inside h))
          (λ h. inl (from_add n t y on_sheet (omega arith) down inside h));
      only = λ z h. ⊎_elim (back_add n t y on_sheet is z h) (back_move n t y on_sheet is z h);
    }
  where
    by_cases : (P : ℕ → Type 0) → (y - 2 ^ t < 2 ^ t / 2 → P (y - 2 ^ t + 2 ^ t / 2)) → (2 ^ t / 2 ≤ y - 2 ^ t → P (y - 2 ^ t)) → P (back t y)
    by_cases P f g = cond_both (ltb (y - 2 ^ t) (2 ^ t / 2)) _ _ P (λ e. f (ltb-true _ _ e)) (λ e. g (ltb-false _ _ e))

-- the greatest part, by the zeros before the lowest places
pub top_leading : (n x : ℕ) → n ≤ 40 → 64 - count_leading_zeros 64 (low n x) ≡ top n x
top_leading n x h =
    let le = top_le n x in
    let e = leading_unique 64 (low n x) (64 - top n x) (top n x) (omega arith) (low_below n x) (low_reaches n x) in
    omega arith

-- what is left after part l, by masses
pub left_is : (qs : List ℕ) → Figures qs → (l x : ℕ) → l ≤ length qs → after qs l x ≡ agreeing_masses qs l x
unfolding agreeing_masses
left_is qs fig l x le =
    let n = length qs in
    let e : (n - l) + l ≡ n = omega arith in
    sym (rw e at (spread qs fig l x (n - l)))

-- what the sheet reads is read again as it is
pub low_low : (n x : ℕ) → low n (low n x) ≡ low n x
low_low n x = mod-eq_of_lt (mod-lt x (pow_pos n))

pub top_low : (n x : ℕ) → top n (low n x) ≡ top n x
top_low n x = top_is n (top n x) (low n x) (mod-lt x (pow_pos n)) (low_below n x) (low_reaches n x)

-- a state z of a sheet of n parts: the number that each step gives, and that it fits
module _ (n z : ℕ) (on_sheet : z < 2 ^ n) where
  same_z : low n z ≡ z
  same_z = mod-eq_of_lt on_sheet

  pub add_gives : top n z < n → add_step n z ≡ (z + 2 ^ top n z) ∷ []
  add_gives h = to_add n z (z + 2 ^ top n z) on_sheet h refl

  pub move_gives : 0 < top n z → top n z < n → move_step n z ≡ (z + 2 ^ (top n z - 1)) ∷ []
  move_gives some h =
      let m : ℕ = top n z - 1 in
      to_move n z (z + 2 ^ m) on_sheet m (omega arith) (omega arith) refl

  pub holds_greatest : 0 < top n z → 2 ^ (top n z - 1) ≤ z
  holds_greatest some =
      let m : ℕ = top n z - 1 in
      let up : 2 ^ suc m ≤ 2 * low n z + 1 = subst (λ k. 2 ^ k ≤ 2 * low n z + 1) (let s : top n z ≡ suc m = omega arith in s) (low_reaches n z) in
      omega (arith, two-pow-succ m, same_z)

  pub parent_is : 0 < top n z → Parent n z (back (top n z - 1) z)
  parent_is some = parent n (top n z - 1) z on_sheet (omega arith)

  module _ (few : n ≤ 40) where
    on_forty : (y : ℕ) → y < 2 ^ n → y < 2 ^ 40
    on_forty y h = lt_of_lt_of_le h (pow_mono few)

    pub add_fits : top n z < n → z + 2 ^ top n z < 2 ^ 40
    add_fits h = on_forty _ (omega (arith, add_within n z h, same_z))

    pub move_fits : 0 < top n z → top n z < n → z + 2 ^ (top n z - 1) < 2 ^ 40
    move_fits some h =
        let m : ℕ = top n z - 1 in
        on_forty (z + 2 ^ m) (omega (arith, move_within n z m (omega arith) (omega arith), same_z))

    pub parent_fits : 0 < top n z → back (top n z - 1) z < 2 ^ 40
    parent_fits some = on_forty _ (parent_is some).on_sheet

pub low_empty : (n x : ℕ) → top n x ≡ 0 → low n x ≡ 0
low_empty n x e = omega (arith, rw e at (low_below n x))

pub no_part : (n z : ℕ) → z < 2 ^ n → top n z ≡ 0 → z ≡ 0
no_part n z h e = omega (arith, mod-eq_of_lt h, low_empty n z e)

-- what is left after part l of a sheet, by masses
pub left_on_sheet : (s : Sheet) (l x : ℕ) → l ≤ count_of s → after (figures_of s) l x ≡ agreeing_masses (figures_of s) l x
left_on_sheet s l x h = left_is (figures_of s) (figures_fine s) l x (omega (arith, count_is s))

-- a step from the state z of a sheet of n parts to y, place by place
pub record Added (n z y t : ℕ) : Type 0 where
  pub room : t < n
  pub lacked : bit t z ≡ false
  pub gained : bit t y ≡ true
  pub others : (j : ℕ) → (j ≡ t → ⊥) → bit j y ≡ bit j z

pub record Moved (n z y m : ℕ) : Type 0 where
  pub room : suc m < n
  pub had : bit m z ≡ true
  pub lost : bit m y ≡ false
  pub lacked : bit (suc m) z ≡ false
  pub gained : bit (suc m) y ≡ true
  pub others : (j : ℕ) → (j ≡ m → ⊥) → (j ≡ suc m → ⊥) → bit j y ≡ bit j z

pub added_bits : (n z y : ℕ) → z < 2 ^ n → add_step n z ≡ y ∷ [] → Added n z y (top n z)
added_bits n z y on_sheet s =
    let t = top n z in
    let found = by_add n z y on_sheet s in
    let lacks : bit t z ≡ false = bit_beyond t t z (omega arith) (rw (mod-eq_of_lt on_sheet) at (low_below n z)) in
    let y-is : y ≡ 2 ^ t + z = omega (arith, found.1) in
    let bits : (j : ℕ) → bit j y ≡ (bit j z || eqb j t) = λ j. ap (bit j) y-is ∙ bit_added t j z lacks in
    record {
      room = found.0;
      lacked = lacks;
      gained = bits t ∙ or_right (bit t z) (eqb t t) (eq-eqb t t refl);
      others = λ j ne. bits j ∙ ap (λ b. bit j z || b) (ne_eqb j t ne) ∙ or-false (bit j z);
    }

pub moved_bits : (n z y : ℕ) → z < 2 ^ n → move_step n z ≡ y ∷ [] → (m : ℕ) × Moved n z y m
moved_bits n z y on_sheet s =
    let found = by_move n z y on_sheet s in
    let m = found.0 in
    let down = rw (mod-eq_of_lt on_sheet, found.1) at (low_below n z) in
    let up = rw (mod-eq_of_lt on_sheet, found.1) at (low_reaches n z) in
    let p = two-pow-succ m in
    let holds : bit m z ≡ true = bit_highest m z (omega arith) down in
    let w : ℕ = z - 2 ^ m in
    let small : w < 2 ^ m = omega arith in
    let lacks : (k : ℕ) → m ≤ k → bit k w ≡ false = λ k le. bit_beyond k m w le small in
    let z-is : z ≡ 2 ^ m + w = omega arith in
    let y-is : y ≡ 2 ^ suc m + w = omega (arith, found.3) in
    let z-bits : (j : ℕ) → bit j z ≡ (bit j w || eqb j m) = λ j. ap (bit j) z-is ∙ bit_added m j w (lacks m (omega arith)) in
    let y-bits : (j : ℕ) → bit j y ≡ (bit j w || eqb j (suc m)) = λ j. ap (bit j) y-is ∙ bit_added (suc m) j w (lacks (suc m) (omega arith)) in (
      m,
      record {
        room = found.2;
        had = holds;
        lost = y-bits m ∙ or_from _ _ (lacks m (omega arith)) (ne_eqb m (suc m) (λ e. omega arith));
        lacked = z-bits (suc m) ∙ or_from _ _ (lacks (suc m) (omega arith)) (ne_eqb (suc m) m (λ e. omega arith));
        gained = y-bits (suc m) ∙ or_right (bit (suc m) w) _ (eq-eqb (suc m) (suc m) refl);
        others = λ j ne ne'. y-bits j ∙ ap (λ b. bit j w || b) (ne_eqb j (suc m) ne') ∙ sym (z-bits j ∙ ap (λ b. bit j w || b) (ne_eqb j m ne));
      },
    )
