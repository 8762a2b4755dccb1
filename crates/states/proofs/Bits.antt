-- Numbers by their binary places. Assumes nothing.
use Rattle.std.proofs.Common.{◌≡◌, ℕ, zero, suc, ◌+◌, ◌-◌, ◌*◌, ◌/◌, ◌%◌, ◌^◌, ◌<◌, ◌≤◌, min, max, Bool, true, false, cond, ◌&&◌, ◌||◌, eqb, sym, refl, ap, ◌∙◌, ⊎_elim, lt_of_lt_of_le, div-one, arith, lit<, pow_pos, pow_mono, pow-add, shr-shr, eq-eqb, ne_eqb}
use mathlib.Core.Bool.{xor}
use native.Mathlib.Nat.{zero-div, div_self, div-eq_of_lt, div-eq_of_lt-le, two-pow-succ}
use borrow.Author.Tests.{clash}
use lib.Arith.{half_le}
use lib.Bits.{bit_and, bit_or, bit_xor, and_step, or_step, xor_step, and_shr, or_shr, xor_shr, differ}
use lib.Pow.{shl-shr, pow-lt, field, mod-mod-pow, mod-pow-add}
use Rattle.std.proofs.lemmas.Bool.{cases_order}
use Rattle.states.specs.Sets.{bit}

-- what holds of both binary digits holds of a remainder by two
digit : (a : ℕ) (P : ℕ → Type 0) → P 0 → P 1 → P (a % 2)
digit a P p q = go (a % 2) (omega arith)
  where
    go : (d : ℕ) → d < 2 → P d
    go zero h = p
    go (suc zero) h = q
    go (suc (suc d)) h = absurd (omega arith)

-- a digit of the result is f of the digits of the operands, and so is its test
test_of : (f : ℕ → ℕ → ℕ) (g : Bool → Bool → Bool) → eqb (f 0 0) 1 ≡ g false false → eqb (f 0 1) 1 ≡ g false true → eqb (f 1 0) 1 ≡ g true false → eqb (f 1 1) 1 ≡ g true true
    → (a b : ℕ) → eqb (f (a % 2) (b % 2)) 1 ≡ g (eqb (a % 2) 1) (eqb (b % 2) 1)
test_of f g e00 e01 e10 e11 a b =
    digit a (λ d. eqb (f d (b % 2)) 1 ≡ g (eqb d 1) (eqb (b % 2) 1))
    (digit b (λ e. eqb (f 0 e) 1 ≡ g false (eqb e 1)) e00 e01)
    (digit b (λ e. eqb (f 1 e) 1 ≡ g true (eqb e 1)) e10 e11)

xor_digit : (a b : ℕ) → bit_xor a b % 2 ≡ differ (a % 2) (b % 2)
xor_digit a b =
    let below = digit a (λ d. differ d (b % 2) < 2) (omega arith) (digit b (λ e. differ 1 e < 2) (lit< tt) (lit< tt)) in
    omega (arith, xor_step a b, below)

and_digit : (a b : ℕ) → bit_and a b % 2 ≡ min (a % 2) (b % 2)
and_digit a b = omega (arith, and_step a b)

or_digit : (a b : ℕ) → bit_or a b % 2 ≡ max (a % 2) (b % 2)
or_digit a b = omega (arith, or_step a b)

pub bit_of_and : (k x y : ℕ) → bit k (bit_and x y) ≡ (bit k x && bit k y)
unfolding bit
bit_of_and k x y =
    ap (λ n. eqb (n % 2) 1) (and_shr x y k) ∙ ap (λ n. eqb n 1) (and_digit (x / 2 ^ k) (y / 2 ^ k))
    ∙ test_of min (◌&&◌) refl refl refl refl (x / 2 ^ k) (y / 2 ^ k)

pub bit_of_or : (k x y : ℕ) → bit k (bit_or x y) ≡ (bit k x || bit k y)
unfolding bit
bit_of_or k x y =
    ap (λ n. eqb (n % 2) 1) (or_shr x y k) ∙ ap (λ n. eqb n 1) (or_digit (x / 2 ^ k) (y / 2 ^ k))
    ∙ test_of max (◌||◌) refl refl refl refl (x / 2 ^ k) (y / 2 ^ k)

pub bit_of_xor : (k x y : ℕ) → bit k (bit_xor x y) ≡ xor (bit k x) (bit k y)
unfolding bit xor
bit_of_xor k x y =
    ap (λ n. eqb (n % 2) 1) (xor_shr x y k) ∙ ap (λ n. eqb n 1) (xor_digit (x / 2 ^ k) (y / 2 ^ k))
    ∙ test_of differ xor refl refl refl refl (x / 2 ^ k) (y / 2 ^ k)

bit_zero_of : (x : ℕ) → bit 0 x ≡ eqb (x % 2) 1
unfolding bit
bit_zero_of x = ap (λ n. eqb (n % 2) 1) (div-one x)

bit_half : (k x : ℕ) → bit k (x / 2) ≡ bit (suc k) x
unfolding bit
bit_half k x =
    let e : 1 + k ≡ suc k = omega arith in
    ap (λ n. eqb (n % 2) 1) (shr-shr x 1 k ∙ ap (λ j. x / 2 ^ j) e)

same_digit : (a b : ℕ) → eqb (a % 2) 1 ≡ eqb (b % 2) 1 → a % 2 ≡ b % 2
same_digit a b =
    digit a (λ d. eqb d 1 ≡ eqb (b % 2) 1 → d ≡ b % 2)
    (digit b (λ e. false ≡ eqb e 1 → 0 ≡ e) (λ t. refl) (λ t. absurd (clash t)))
    (digit b (λ e. true ≡ eqb e 1 → 1 ≡ e) (λ t. absurd (clash (sym t))) (λ t. refl))

same_upto : (f x y : ℕ) → x ≤ f → y ≤ f → ((k : ℕ) → bit k x ≡ bit k y) → x ≡ y
same_upto zero x y h g same = omega arith
same_upto (suc f) x y h g same =
    let halves = same_upto f (x / 2) (y / 2) (half_le h) (half_le g) (λ k. bit_half k x ∙ same (suc k) ∙ sym (bit_half k y)) in
    let digits = same_digit x y (sym (bit_zero_of x) ∙ same 0 ∙ bit_zero_of y) in
    omega arith

pub bit_nothing : (k : ℕ) → bit k 0 ≡ false
unfolding bit
bit_nothing k = ap (λ n. eqb (n % 2) 1) (zero-div (2 ^ k))

-- two numbers are one where all their places are the same
pub same_bits : (x y : ℕ) → ((k : ℕ) → bit k x ≡ bit k y) → x ≡ y
same_bits x y same = same_upto (x + y) x y (omega arith) (omega arith) same

above : (j d : ℕ) → bit j (2 ^ (suc d + j)) ≡ false
unfolding bit
above j d =
    let e : 2 ^ (suc d + j) / 2 ^ j ≡ 2 ^ suc d = ap (λ n. n / 2 ^ j) (pow-add 2 (suc d) j) ∙ shl-shr (2 ^ suc d) j in
    let even : 2 ^ (suc d + j) / 2 ^ j % 2 ≡ 0 = omega (arith, e, two-pow-succ d) in
    rw even

-- the places of a power of two
pub bit_power : (j k : ℕ) → bit j (2 ^ k) ≡ eqb j k
unfolding bit
bit_power j k = ⊎_elim same (⊎_elim higher lower) (cases_order j k)
  where
    same : j ≡ k → bit j (2 ^ k) ≡ eqb j k
    same e =
        let one : 2 ^ k / 2 ^ j % 2 ≡ 1 = ap (λ n. 2 ^ k / 2 ^ n % 2) e ∙ ap (λ n. n % 2) (div_self (pow_pos k)) in
        rw one (sym (eq-eqb j k e))

    higher : j < k → bit j (2 ^ k) ≡ eqb j k
    higher h =
        let e : suc (k - suc j) + j ≡ k = omega arith in
        ap (λ n. bit j (2 ^ n)) (sym e) ∙ above j (k - suc j) ∙ sym (ne_eqb j k (λ same. omega arith))

    lower : k < j → bit j (2 ^ k) ≡ eqb j k
    lower h =
        let none : 2 ^ k / 2 ^ j % 2 ≡ 0 = ap (λ n. n % 2) (div-eq_of_lt (pow-lt h)) in
        rw none (sym (ne_eqb j k (λ same. omega arith)))

-- the lowest l places, and the others
pub bit_low : (k l x : ℕ) → k < l → bit k (x % 2 ^ l) ≡ bit k x
unfolding bit
bit_low k l x h =
    let e : suc (l - suc k) + k ≡ l = omega arith in
    let one : suc (l - suc k) ≡ (l - suc k) + 1 = omega arith in
    ap (λ n. bit k (x % 2 ^ n)) (sym e)
    ∙ ap (λ n. eqb (n % 2) 1) (field x (suc (l - suc k)) k ∙ ap (λ n. x / 2 ^ k % 2 ^ n) one)
    ∙ ap (λ n. eqb n 1) (mod-mod-pow (x / 2 ^ k) (l - suc k) 1)

pub bit_beyond : (k l x : ℕ) → l ≤ k → x < 2 ^ l → bit k x ≡ false
unfolding bit
bit_beyond k l x h b = ap (λ n. eqb (n % 2) 1) (div-eq_of_lt (lt_of_lt_of_le b (pow_mono h)))

pub bit_highest : (m z : ℕ) → 2 ^ m ≤ z → z < 2 ^ suc m → bit m z ≡ true
unfolding bit
bit_highest m z from to =
    let e : z / 2 ^ m ≡ 1 = div-eq_of_lt-le (2 ^ m) (omega arith) (omega (arith, two-pow-succ m)) in
    ap (λ n. eqb (n % 2) 1) e

-- one place more
pub low_more : (n x : ℕ) → x % 2 ^ suc n ≡ cond (bit n x) (2 ^ n + x % 2 ^ n) (x % 2 ^ n)
unfolding bit
low_more n x =
    let e : 1 + n ≡ suc n = omega arith in
    ap (λ k. x % 2 ^ k) (sym e) ∙ mod-pow-add x 1 n
    ∙ digit (x / 2 ^ n) (λ d. d * 2 ^ n + x % 2 ^ n ≡ cond (eqb d 1) (2 ^ n + x % 2 ^ n) (x % 2 ^ n)) (omega arith) (omega arith)
