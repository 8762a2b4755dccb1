-- Numbers written in fields. Assumes nothing.
use Rattle.std.proofs.Common.{◌≡◌, ℕ, ◌-◌, ◌^◌, ◌<◌, ◌≤◌, true, false, not, ◌||◌, eqb, ltb, leb, List, length, get_or, Some, None, decimal, Option, sym, ap, ◌∙◌, subst, ⊎_elim, arith, lit<, le-ltb, lt-ltb, eqb-true, leb-false, leb-true, MatchOption}
use native.Mathlib.Nat.{pow-le-pow_right}
use borrow.Author.Tests.{eqb-false}
use Rattle.std.proofs.lemmas.Fmt.{decimal_nonempty, length-decimal-le, first_decimal, decimal_digit, decimal_is_IsNumeral, decimal-digits_value}
use Rattle.std.proofs.lemmas.Int.Digits.{digits_value-lt}
use Rattle.std.proofs.lemmas.Str.Parse.{numerals_by_value, tells_digits}
use Rattle.std.proofs.lemmas.Bool.{cases_eq, cond-true, cond-false, and_cases, and_parts, or_parts, or_cases, not-true, not-false}
use Rattle.std.specs.Str.Parse.{AllDigits, digits_value}
use Rattle.std.specs.Char.{digit_value}
use Rattle.sheet_lines.specs.Numbers.{Writes, of_length, ReadsNumber}

pub digit_worth : (c : ℕ) → 48 ≤ c → c ≤ 57 → digit_value c ≡ c - 48
digit_worth c low high = cond-false (ltb c 48) _ _ (le-ltb c 48 (omega arith)) ∙ cond-true (ltb c 58) _ _ (lt-ltb c 58 (omega arith))

-- a number of so many digits
pub short_value : (ds : List ℕ) (k : ℕ) → AllDigits 10 ds → length ds ≤ k → digits_value 10 ds < 10 ^ k
short_value ds k digits few =
    let one = digits_value-lt 10 ds digits in
    let grows : 10 ^ length ds ≤ 10 ^ k = pow-le-pow_right (lit< tt) few in
    omega (arith, one, grows)

below_64 : (n : ℕ) → n < 10 ^ 8 → n < 2 ^ 64
below_64 n h = omega (arith, h)

-- what no field is that writes a number
pub not_empty : (field : List ℕ) (n : ℕ) → length field ≡ 0 → Writes field n → ⊥
not_empty field n none w = omega (arith, decimal_nonempty n (below_64 n w.1), ap length w.0)

pub not_long : (field : List ℕ) (n : ℕ) → 8 < length field → Writes field n → ⊥
not_long field n long w = omega (arith, length-decimal-le 8 n (lit< tt) w.1 (below_64 n w.1), ap length w.0)

pub no_leading_zero : (field : List ℕ) (n : ℕ) → get_or field 0 0 ≡ 48 → 1 < length field → Writes field n → ⊥
no_leading_zero field n zero-first more w = ⊎_elim none some (cases_eq n 0)
  where
    none : n ≡ 0 → ⊥
    none e = omega (arith, ap length (w.0 ∙ ap decimal e), ap length (decimal_digit 0 (lit< tt)))

    some : (n ≡ 0 → ⊥) → ⊥
    some ne = omega (arith, first_decimal n (omega (arith, ne)) (below_64 n w.1), ap (λ xs. get_or xs 0 0) w.0)

pub all_digits : (field : List ℕ) (n : ℕ) → Writes field n → AllDigits 10 field
all_digits field n w = subst (AllDigits 10) (sym w.0) (decimal_is_IsNumeral n (below_64 n w.1)).0.1

-- a field of another length writes none
pub other_length : (field : List ℕ) (n : ℕ) → of_length field ≡ false → Writes field n → ⊥
other_length field n other w = ⊎_elim empty (λ rest. ⊎_elim long zero (and_cases _ _ rest)) (and_cases _ _ other)
  where
    empty : not (eqb (length field) 0) ≡ false → ⊥
    empty e = not_empty field n (eqb-true (length field) 0 (not-false _ e)) w

    long : leb (length field) 8 ≡ false → ⊥
    long e = not_long field n (leb-false (length field) 8 e) w

    zero : (not (eqb (get_or field 0 0) 48) || eqb (length field) 1) ≡ false → ⊥
    zero e =
        let both = or_parts (not (eqb (get_or field 0 0) 48)) (eqb (length field) 1) e in
        no_leading_zero field n (eqb-true (get_or field 0 0) 48 (not-false _ both.0)) (omega (arith, decimal_nonempty n (below_64 n w.1), ap length w.0, eqb-false (length field) 1 both.1)) w

-- digits of that length write their value
pub writes_value : (field : List ℕ) (n : ℕ) → of_length field ≡ true → AllDigits 10 field → n ≡ digits_value 10 field → Writes field n
writes_value field n right digits e =
    let some = and_parts (not (eqb (length field) 0)) _ right in
    let rest = and_parts (leb (length field) 8) _ some.1 in
    let few = leb-true (length field) 8 rest.0 in
    let small = short_value field 8 digits few in
    let own = numerals_by_value (AllDigits 10) tells_digits in
    let alone : get_or field 0 0 ≡ 48 → length field ≡ 1 = λ zero-first. ⊎_elim (λ none. absurd (eqb-false (get_or field 0 0) 48 (not-true _ none) zero-first)) (eqb-true (length field) 1) (or_cases (not (eqb (get_or field 0 0) 48)) (eqb (length field) 1) rest.1) in
    let inside : 0 < length field = omega (arith, eqb-false (length field) 0 (not-true _ some.0)) in
    (sym (ap decimal e ∙ decimal-digits_value own field digits inside alone (omega (arith, small))), omega (arith, e, small))

-- so what reading the digits answers is the number in the field
pub read_right : (field : List ℕ) (r : Option ℕ) → of_length field ≡ true → MatchOption r (AllDigits 10 field → ⊥) (λ n. AllDigits 10 field × (n ≡ digits_value 10 field)) → ReadsNumber field r
read_right field (Some n) right read = writes_value field n right read.0 read.1
read_right field None right read = λ n w. read (all_digits field n w)
