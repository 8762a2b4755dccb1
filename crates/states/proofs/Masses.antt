-- Masses: what is left after some parts depends on these parts alone, and the masses of all states that agree up to some part
-- sum to what is left there. Assumes nothing.
use Rattle.std.proofs.Common.{◌≡◌, ℕ, zero, suc, ◌+◌, ◌*◌, ◌/◌, ◌%◌, ◌^◌, ◌<◌, ◌≤◌, Bool, true, false, cond, ◌||◌, eqb, List, length, get_or, map, sym, refl, ap, ◌∙◌, ap₂, mod-lt, mod-eq_of_lt, mul-le-mul_left, div-add-mod', arith, pow_pos, pow-add, eq-eqb, ne_eqb}
use mathlib.Core.Bool.{or-false}
use native.Mathlib.Nat.{mod-mod, two-pow-succ, mul-add-mod_self_right, mod-one}
use Rattle.std.proofs.lemmas.Bool.{or_right}
use Rattle.states.specs.Steps.{low, agrees}
use Rattle.states.proofs.Bits.{bit_low, bit_beyond}
use Rattle.states.proofs.Sets.{bit_added}
use Rattle.std.proofs.lemmas.List.{length-map, get_or-map}
use Rattle.sheet.specs.Parts.{figures_of, figure_of, parts_of, count_of}
use Rattle.sheet.specs.declared.part.Part.{Part}
use Rattle.sheet.specs.declared.sealed.Sheet.{Sheet}
use Rattle.sheet.proofs.Figures.{figures_half}
use Rattle.states.specs.Sets.{bit, has}
use Rattle.states.specs.Masses.{total, fall, goes_on, after, mass}
use Rattle.states.specs.Sums.{sum_below}
use Rattle.states.proofs.Sums.{sum_same, sum_add, sum_split, sum_one}

-- all figures are probabilities
abbrev pub Figures : List ℕ → Type 0
Figures qs = (l : ℕ) → get_or qs l 0 ≤ 1000000

pub fall_le : (q s : ℕ) → q ≤ 1000000 → fall q s ≤ s
fall_le q s h = omega (arith, mul-le-mul_left s h)

-- what is left after part l + 1 if it has failed, and if it is sound, is what was left before it
pub both : (q s : ℕ) → q ≤ 1000000 → goes_on q s false + goes_on q s true ≡ s
both q s h = omega (arith, fall_le q s h)

pub after_same : (qs : List ℕ) (l x y : ℕ) → ((k : ℕ) → k < l → bit k x ≡ bit k y) → after qs l x ≡ after qs l y
unfolding after
after_same qs zero x y same = refl
after_same qs (suc l) x y same =
    ap₂ (goes_on (get_or qs l 0)) (after_same qs l x y (λ k h. same k (omega arith))) (same l (omega arith))

pub after_low : (qs : List ℕ) (l x : ℕ) → after qs l (low l x) ≡ after qs l x
after_low qs l x = after_same qs l (low l x) x (λ k h. bit_low k l x h)

-- the states that agree with x up to part l, weighed by what is left after part m
abbrev weighed : List ℕ → ℕ → ℕ → ℕ → ℕ → ℕ
weighed qs l x m y = cond (agrees l x y) (after qs m y) 0

-- among the states of l parts only the lowest places of x themselves agree with x up to part l
alone : (qs : List ℕ) (l x : ℕ) → sum_below (2 ^ l) (weighed qs l x l) ≡ after qs l x
alone qs l x =
    sum_one (2 ^ l) (low l x) (weighed qs l x l) (mod-lt x (pow_pos l))
    (λ y h ne. rw (ne_eqb (low l x) (low l y) (λ e. ne (sym (e ∙ mod-eq_of_lt h)))))
    ∙ (rw (eq-eqb (low l x) (low l (low l x)) (sym (mod-mod x (2 ^ l)))) (after_low qs l x))

-- a state of n parts, with part n + 1 sound and with it failed
module _ (qs : List ℕ) (n y : ℕ) (h : y < 2 ^ n) where
  sound : bit n y ≡ false
  sound = bit_beyond n n y (omega arith) h

  failed : bit n (2 ^ n + y) ≡ true
  failed = bit_added n n y sound ∙ or_right (bit n y) (eqb n n) (eq-eqb n n refl)

  same_before : after qs n (2 ^ n + y) ≡ after qs n y
  same_before =
      after_same qs n (2 ^ n + y) y
      (λ k l. bit_added n k y sound ∙ ap (λ b. bit k y || b) (ne_eqb k n (λ e. omega arith)) ∙ or-false (bit k y))

  pub one_part_more : get_or qs n 0 ≤ 1000000 → after qs (suc n) y + after qs (suc n) (2 ^ n + y) ≡ after qs n y
  unfolding after
  one_part_more q =
      ap₂ (◌+◌) (ap (goes_on (get_or qs n 0) (after qs n y)) sound) (ap₂ (goes_on (get_or qs n 0)) same_before failed)
      ∙ both (get_or qs n 0) (after qs n y) q

pub low_above : (l d y : ℕ) → low l (2 ^ (d + l) + y) ≡ low l y
low_above l d y = ap (λ p. (p + y) % 2 ^ l) (pow-add 2 d l) ∙ mul-add-mod_self_right (2 ^ d) (2 ^ l) y

twofold : (qs : List ℕ) → Figures qs → (l x d y : ℕ) → y < 2 ^ (d + l)
    → weighed qs l x (suc (d + l)) y + weighed qs l x (suc (d + l)) (2 ^ (d + l) + y) ≡ weighed qs l x (d + l) y
twofold qs fig l x d y h =
    rw (low_above l d y) (under (agrees l x y) _ _ _ (one_part_more qs (d + l) y h (fig (d + l))))
  where
    under : (b : Bool) (u v w : ℕ) → u + v ≡ w → cond b u 0 + cond b v 0 ≡ cond b w 0
    under true u v w e = e
    under false u v w e = refl

-- the masses of all states that agree with x up to part l sum to what is left of the total after part l in x
pub spread : (qs : List ℕ) → Figures qs → (l x d : ℕ) → sum_below (2 ^ (d + l)) (weighed qs l x (d + l)) ≡ after qs l x
spread qs fig l x zero = let e : zero + l ≡ l = omega arith in rw e (alone qs l x)
spread qs fig l x (suc d) =
    let e : suc d + l ≡ suc (d + l) = omega arith in
    let n : ℕ = d + l in
    rw (e, two-pow-succ n)
    (sum_split (2 ^ n) (2 ^ n) (weighed qs l x (suc n))
    ∙ sym (sum_add (2 ^ n) (weighed qs l x (suc n)) (λ y. weighed qs l x (suc n) (2 ^ n + y)))
    ∙ sum_same (2 ^ n) _ _ (twofold qs fig l x d)
    ∙ spread qs fig l x d)

-- the masses of all states sum to the total
pub conserved : (qs : List ℕ) → Figures qs → sum_below (2 ^ length qs) (mass qs) ≡ total
unfolding after
conserved qs fig =
    let e : length qs + 0 ≡ length qs = omega arith in
    sum_same (2 ^ length qs) (mass qs) (weighed qs 0 0 (length qs)) (λ y h. rw (mod-one y))
    ∙ (rw e at (spread qs fig 0 0 (length qs)))

pub figures_fine : (s : Sheet) → Figures (figures_of s)
figures_fine s l = omega (arith, figures_half s l)

pub all_masses : (s : Sheet) → sum_below (2 ^ count_of s) (mass (figures_of s)) ≡ total
all_masses s =
    ap (λ n. sum_below (2 ^ n) (mass (figures_of s))) (sym (length-map (parts_of s) figure_of)) ∙ conserved (figures_of s) (figures_fine s)

-- the mass reads no place beyond the sheet
pub mass_read : (s : Sheet) (x : ℕ) → mass (figures_of s) (low (count_of s) x) ≡ mass (figures_of s) x
mass_read s x =
    ap (λ n. mass (figures_of s) (low n x)) (sym (length-map (parts_of s) figure_of)) ∙ after_low (figures_of s) (length (figures_of s)) x

pub after_none : (qs : List ℕ) (x : ℕ) → after qs 0 x ≡ total
unfolding after
after_none qs x = refl

-- the quotient and the remainder by a million, multiplied apart
pub fall_apart : (q s : ℕ) → s / 1000000 * q + s % 1000000 * q / 1000000 ≡ fall q s
fall_apart q s = omega (arith, ap (λ t. t * q) (div-add-mod' s 1000000))

pub part_le : (q s : ℕ) → q ≤ 1000000 → s / 1000000 * q ≤ s
part_le q s h = omega (arith, mul-le-mul_left (s / 1000000) h)

-- what the code works out at part l + 1
pub after_part : (ps : List Part) (l x : ℕ) (p : Part) → l < length ps → p ≡ get_or ps l p
    → after (map figure_of ps) (l + 1) x ≡ goes_on (figure_of p) (after (map figure_of ps) l x) (eqb (x / 2 ^ l % 2) 1)
unfolding after bit
after_part ps l x p h is =
    let e : l + 1 ≡ suc l = omega arith in
    rw (e, get_or-map figure_of ps l p 0 h, ← is) refl

-- no state weighs more than the total
after_le : (qs : List ℕ) → Figures qs → (l x : ℕ) → after qs l x ≤ total
unfolding after
after_le qs fig zero x = omega arith
after_le qs fig (suc l) x = one (has (suc l) x) (after_le qs fig l x)
  where
    one : (b : Bool) → after qs l x ≤ total → goes_on (get_or qs l 0) (after qs l x) b ≤ total
    one true h = omega (arith, fall_le (get_or qs l 0) (after qs l x) (fig l), h)
    one false h = omega (arith, h)

pub mass_le : (qs : List ℕ) → Figures qs → (x : ℕ) → mass qs x ≤ total
mass_le qs fig x = after_le qs fig (length qs) x
