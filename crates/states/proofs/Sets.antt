-- Sets of parts: what with, without, union and containment say part by part. Assumes nothing.
use Rattle.std.proofs.Common.{◌≡◌, ℕ, zero, suc, pred, ◌+◌, ◌-◌, ◌*◌, ◌%◌, ◌^◌, ◌<◌, ◌≤◌, Bool, true, false, cond, not, ◌&&◌, ◌||◌, eqb, ◌==◌, sym, refl, ap, ◌∙◌, subst, ⊎_elim, mod-lt, mod-eq_of_lt, zero-add, arith, pow_pos, eq-eqb, ne_eqb, eqb-true}
use mathlib.Core.Bool.{xor, or_comm}
use native.Mathlib.Nat.{mod-one}
use borrow.Author.Tests.{eqb-false}
use lib.Bits.{bit_and, bit_or, bit_xor, or_disjoint, or_lt, and_le_l, and_le_r, xor_add_and, and_comm}
use lib.Count.{ones, ones_cat, ones-ones}
use lib.Pow.{pow-lt}
use Rattle.std.proofs.lemmas.Bool.{cases_eq, and_left, and_right, and_parts, and_from, or_left, or_right, or_cases, cond_both}
use Rattle.states.specs.Sets.{bit, has, with_part, without_part, Within, disjoint, difference, size}
use Rattle.states.proofs.Bits.{bit_of_and, bit_of_or, bit_of_xor, bit_power, bit_nothing, same_bits, low_more}

xor_self : xor true true ≡ false
unfolding xor
xor_self = refl

xor_none : (b : Bool) → xor b false ≡ b
unfolding xor
xor_none true = refl
xor_none false = refl

-- containment, place by place
pub within_bit : (x y k : ℕ) → Within x y → bit k x ≡ true → bit k y ≡ true
within_bit x y k w h = ap (λ b. b && bit k y) (sym h) ∙ sym (bit_of_and k x y) ∙ ap (bit k) w ∙ h

pub within_from : (x y : ℕ) → ((k : ℕ) → bit k x ≡ true → bit k y ≡ true) → Within x y
within_from x y f = same_bits (bit_and x y) x (λ k. bit_of_and k x y ∙ go (bit k x) (bit k y) (f k))
  where
    go : (a b : Bool) → (a ≡ true → b ≡ true) → (a && b) ≡ a
    go true b h = h refl
    go false b h = refl

-- the two cases of a place beside another
one_place : {P : Type 0} (j k : ℕ) → (j ≡ k → P) → (eqb j k ≡ false → P) → P
one_place j k p q = ⊎_elim p (λ ne. q (ne_eqb j k ne)) (cases_eq j k)

lacking : (k x : ℕ) → bit k x ≡ false → x + 2 ^ k ≡ bit_or x (2 ^ k)
lacking k x h =
    sym (or_disjoint x (2 ^ k) (same_bits (bit_and x (2 ^ k)) 0 (λ j. bit_of_and j x (2 ^ k) ∙ apart j ∙ sym (bit_nothing j))))
  where
    apart : (j : ℕ) → (bit j x && bit j (2 ^ k)) ≡ false
    apart j =
        one_place j k (λ e. and_left (bit j x) _ (ap (λ n. bit n x) e ∙ h)) (λ t. and_right (bit j x) _ (bit_power j k ∙ t))

inside : (k x : ℕ) → bit k x ≡ true → Within (2 ^ k) x
inside k x h = within_from (2 ^ k) x (λ j t. ap (λ n. bit n x) (eqb-true j k (sym (bit_power j k) ∙ t)) ∙ h)

holding : (k x : ℕ) → bit k x ≡ true → x - 2 ^ k ≡ bit_xor x (2 ^ k)
holding k x h =
    omega (arith, xor_add_and x (2 ^ k), and_comm x (2 ^ k), inside k x h)

pub bit_with : (i k x : ℕ) → bit k (with_part i x) ≡ (eqb k (pred i) || bit k x)
unfolding with_part
bit_with i k x = go (bit (pred i) x) refl
  where
    go : (b : Bool) → bit (pred i) x ≡ b → bit k (cond b x (x + 2 ^ pred i)) ≡ (eqb k (pred i) || bit k x)
    go true h =
        one_place k (pred i) (λ e. let t = ap (λ n. bit n x) e ∙ h in t ∙ sym (or_right (eqb k (pred i)) (bit k x) t)) (λ t. rw t)
    go false h =
        ap (bit k) (lacking (pred i) x h) ∙ bit_of_or k x (2 ^ pred i) ∙ ap (λ b. bit k x || b) (bit_power k (pred i))
        ∙ or_comm (bit k x) (eqb k (pred i))

pub bit_without : (i k x : ℕ) → bit k (without_part i x) ≡ (not (eqb k (pred i)) && bit k x)
unfolding without_part
bit_without i k x = go (bit (pred i) x) refl
  where
    go : (b : Bool) → bit (pred i) x ≡ b → bit k (cond b (x - 2 ^ pred i) x) ≡ (not (eqb k (pred i)) && bit k x)
    go true h =
        ap (bit k) (holding (pred i) x h) ∙ bit_of_xor k x (2 ^ pred i) ∙ ap (xor (bit k x)) (bit_power k (pred i))
        ∙ one_place k (pred i) (λ e. rw (eq-eqb k (pred i) e, ap (λ n. bit n x) e ∙ h) xor_self) (λ t. rw t (xor_none (bit k x)))
    go false h = one_place k (pred i) (λ e. rw (eq-eqb k (pred i) e) (ap (λ n. bit n x) e ∙ h)) (λ t. rw t)

-- a part that the set lacks is added to its number
pub bit_added : (k j x : ℕ) → bit k x ≡ false → bit j (2 ^ k + x) ≡ (bit j x || eqb j k)
bit_added k j x h =
    let e : 2 ^ k + x ≡ x + 2 ^ k = omega arith in
    ap (bit j) (e ∙ lacking k x h) ∙ bit_of_or j x (2 ^ k) ∙ ap (λ b. bit j x || b) (bit_power j k)

-- the number of a set with a part
pub or_with : (i x : ℕ) → bit_or x (2 ^ pred i) ≡ with_part i x
or_with i x =
    same_bits (bit_or x (2 ^ pred i)) (with_part i x)
    (λ k. bit_of_or k x (2 ^ pred i) ∙ ap (λ b. bit k x || b) (bit_power k (pred i)) ∙ or_comm (bit k x) (eqb k (pred i)) ∙ sym (bit_with i k x))

-- a part of a set counts in its number
pub part_le : (k x : ℕ) → bit k x ≡ true → 2 ^ k ≤ x
part_le k x h = subst (λ n. n ≤ x) (inside k x h) (and_le_r (2 ^ k) x)

-- places counted from part 1
pub same_part : (i j : ℕ) → 0 < i → 0 < j → eqb (pred j) (pred i) ≡ eqb j i
same_part i j hi hj = one_place j i (λ e. eq-eqb _ _ (ap pred e) ∙ sym (eq-eqb j i e)) (λ t. ne_eqb _ _ (λ e. eqb-false j i t (omega arith)) ∙ sym t)

-- with and without, part by part
pub has_with : (i x r : ℕ) → 0 < i → r ≡ with_part i x → (j : ℕ) → 0 < j → has j r ≡ (eqb j i || has j x)
has_with i x r h made j g = ap (has j) made ∙ bit_with i (pred j) x ∙ ap (λ b. b || has j x) (same_part i j h g)

pub has_without : (i x r : ℕ) → 0 < i → r ≡ without_part i x → (j : ℕ) → 0 < j → has j r ≡ (not (eqb j i) && has j x)
has_without i x r h made j g = ap (has j) made ∙ bit_without i (pred j) x ∙ ap (λ b. not b && has j x) (same_part i j h g)

-- sets that share no part
pub disjoint_bit : (x y k : ℕ) → disjoint x y ≡ true → bit k x ≡ true → bit k y ≡ false
disjoint_bit x y k d h = ap (λ b. b && bit k y) (sym h) ∙ sym (bit_of_and k x y) ∙ ap (bit k) (eqb-true _ _ d) ∙ bit_nothing k

pub disjoint_from : (x y : ℕ) → ((k : ℕ) → bit k x ≡ true → bit k y ≡ false) → disjoint x y ≡ true
disjoint_from x y f =
    eq-eqb _ _ (same_bits (bit_and x y) 0 (λ k. bit_of_and k x y ∙ go (bit k x) (bit k y) (f k) ∙ sym (bit_nothing k)))
  where
    go : (a b : Bool) → (a ≡ true → b ≡ false) → (a && b) ≡ false
    go true b h = h refl
    go false b h = refl

-- what is sound in a state is sound in every state that it contains
pub sound_within : (x y k : ℕ) → Within x y → bit k y ≡ false → bit k x ≡ false
sound_within x y k w h = go (bit k x) (within_bit x y k w)
  where
    go : (a : Bool) → (a ≡ true → bit k y ≡ true) → a ≡ false
    go true f = sym (f refl) ∙ h
    go false f = refl

pub disjoint_within : (p x y : ℕ) → Within x y → disjoint p y ≡ true → disjoint p x ≡ true
disjoint_within p x y w d = disjoint_from p x (λ k h. sound_within x y k w (disjoint_bit p y k d h))

-- the difference of two sets, place by place
pub bit_difference : (k x y : ℕ) → bit k (difference x y) ≡ (bit k x && not (bit k y))
unfolding xor
bit_difference k x y =
    let common : ℕ = bit_and x y in
    let inside : Within common x = within_from common x (λ j t. (and_parts (bit j x) (bit j y) (sym (bit_of_and j x y) ∙ t)).0) in
    let e : difference x y ≡ bit_xor x common = omega (arith, xor_add_and x common, and_comm x common, inside) in
    ap (bit k) e ∙ bit_of_xor k x common ∙ ap (xor (bit k x)) (bit_of_and k x y) ∙ lost (bit k x) (bit k y)
  where
    lost : (a b : Bool) → xor a (a && b) ≡ (a && not b)
    lost true true = refl
    lost true false = refl
    lost false b = refl

-- the number of ones of a number is the size of its set
ones_low : (n x : ℕ) → ones (x % 2 ^ n) ≡ size n x
unfolding size
ones_low zero x = ap ones (mod-one x) ∙ ones-ones 0
ones_low (suc n) x = ap ones (low_more n x) ∙ go (bit n x) (ones_low n x)
  where
    one_more : ones (2 ^ n + x % 2 ^ n) ≡ 1 + ones (x % 2 ^ n)
    one_more =
        let e : 2 ^ n + x % 2 ^ n ≡ 1 * 2 ^ n + x % 2 ^ n = omega arith in
        ap ones e ∙ ones_cat n 1 (x % 2 ^ n) (mod-lt x (pow_pos n)) ∙ ap (λ k. k + ones (x % 2 ^ n)) (ones-ones 1)

    go : (b : Bool) → ones (x % 2 ^ n) ≡ size n x → ones (cond b (2 ^ n + x % 2 ^ n) (x % 2 ^ n)) ≡ cond b 1 0 + size n x
    go true ih = one_more ∙ ap (λ k. 1 + k) ih
    go false ih = ih ∙ sym (zero-add (size n x))

pub ones_size : (x : ℕ) → x < 2 ^ 40 → ones x ≡ size 40 x
ones_size x h = ap ones (sym (mod-eq_of_lt h)) ∙ ones_low 40 x

-- sets with a part, and without it, keep containment and the bound
pub with_fits : (i x : ℕ) → i ≤ 40 → x < 2 ^ 40 → with_part i x < 2 ^ 40
with_fits i x h f =
    let small : pred i < 40 = omega arith in
    subst (λ n. n < 2 ^ 40) (or_with i x) (or_lt 40 x (2 ^ pred i) f (pow-lt small))

pub without_fits : (i x : ℕ) → x < 2 ^ 40 → without_part i x < 2 ^ 40
unfolding without_part
without_fits i x f = cond_both (has i x) (x - 2 ^ pred i) x (λ n. n < 2 ^ 40) (λ t. omega arith) (λ t. f)

pub with_within : (i x y : ℕ) → Within x y → Within (with_part i x) (with_part i y)
with_within i x y w =
    within_from (with_part i x) (with_part i y)
    (λ k t. bit_with i k y ∙ ⊎_elim (λ e. or_left (eqb k (pred i)) _ e) (λ h. or_right (eqb k (pred i)) _ (within_bit x y k w h)) (or_cases _ _ (sym (bit_with i k x) ∙ t)))

pub without_within : (i x y : ℕ) → Within x y → Within (without_part i x) (without_part i y)
without_within i x y w =
    within_from (without_part i x) (without_part i y)
    (λ k t. let both = and_parts (not (eqb k (pred i))) (bit k x) (sym (bit_without i k x) ∙ t) in
    bit_without i k y ∙ and_from _ _ both.0 (within_bit x y k w both.1))

-- the same in the words of contracts
pub or_fits : (x y : ℕ) → x < 2 ^ 40 → y < 2 ^ 40 → bit_or x y < 2 ^ 40
or_fits x y h g = or_lt 40 x y h g

pub common_le : (x y : ℕ) → bit_and x y ≤ x
common_le x y = and_le_l x y

pub within_part : (x y j : ℕ) → (bit_and x y == x) ≡ true → has j x ≡ true → has j y ≡ true
within_part x y j t h = within_bit x y (pred j) (eqb-true _ _ t) h

pub within_parts : (x y : ℕ) → ((j : ℕ) → has j x ≡ true → has j y ≡ true) → (bit_and x y == x) ≡ true
within_parts x y f = eq-eqb _ _ (within_from x y (λ k. f (suc k)))

pub disjoint_part : (x y j : ℕ) → (bit_and x y == 0) ≡ true → has j x ≡ true → has j y ≡ false
disjoint_part x y j t h = disjoint_bit x y (pred j) t h

pub disjoint_parts : (x y : ℕ) → ((j : ℕ) → has j x ≡ true → has j y ≡ false) → (bit_and x y == 0) ≡ true
disjoint_parts x y f = disjoint_from x y (λ k. f (suc k))
