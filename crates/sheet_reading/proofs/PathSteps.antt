-- The numbers of a path, one by one. Assumes nothing.
use Rattle.std.proofs.Common.{◌≡◌, ℕ, zero, suc, pred, ◌+◌, ◌-◌, ◌*◌, ◌%◌, ◌^◌, ◌<◌, ◌≤◌, ◌&&◌, ltb, leb, List, [], ◌∷◌, ap, ◌∙◌, mod-eq_of_lt, sub-one, arith, pow_mono, le-ltb, lt-ltb, le-leb}
use native.Mathlib.Nat.{two-pow-succ}
use borrow.Author.Tests.{lt-leb}
use lib.Pow.{pow-lt}
use Rattle.std.proofs.lemmas.Bool.{cond-true, cond-false, and_from, and_left, and_right}
use Rattle.sheet_reading.specs.Paths.{first_off}

pub not_rising : (n last i m : ℕ) (ms : List ℕ) → m ≤ last → first_off n last i (m ∷ ms) ≡ i ∷ []
not_rising n last i m ms h = cond-false (ltb last m && leb m n) _ _ (and_left (ltb last m) (leb m n) (le-ltb last m h))

pub not_on_sheet : (n last i m : ℕ) (ms : List ℕ) → n < m → first_off n last i (m ∷ ms) ≡ i ∷ []
not_on_sheet n last i m ms h = cond-false (ltb last m && leb m n) _ _ (and_right (ltb last m) (leb m n) (lt-leb m n h))

pub on_sheet : (n last i m : ℕ) (ms : List ℕ) → last < m → m ≤ n → first_off n last i (m ∷ ms) ≡ first_off n m (i + 1) ms
on_sheet n last i m ms above within =
    cond-true (ltb last m && leb m n) _ _ (and_from (ltb last m) (leb m n) (lt-ltb last m above) (le-leb m n within)) ∙ (let e : suc i ≡ i + 1 = omega arith in ap (λ k. first_off n m k ms) e)

-- what a part counts in the number of a set
pub place_is : (m : ℕ) → m ≤ 40 → 1 * 2 ^ (m - 1) % 18446744073709551616 ≡ 2 ^ pred m
place_is m few =
    let below : m - 1 < 64 = omega arith in
    let small : 2 ^ (m - 1) < 2 ^ 64 = pow-lt {i = m - 1} {j = 64} below in
    let once : 1 * 2 ^ (m - 1) ≡ 2 ^ (m - 1) = omega arith in
    ap (λ k. k % 18446744073709551616) once ∙ mod-eq_of_lt small ∙ ap (λ k. 2 ^ k) (sub-one m)

-- a set of parts up to last, and one more part
pub set_grows : (set last m : ℕ) → set < 2 ^ last → last < m → set + 2 ^ pred m < 2 ^ m
set_grows set last zero small above = absurd (omega (arith, above))
set_grows set last (suc k) small above =
    let within : last ≤ k = omega arith in
    let grows : 2 ^ last ≤ 2 ^ k = pow_mono {i = last} {j = k} within in
    omega (arith, small, grows, two-pow-succ k)
