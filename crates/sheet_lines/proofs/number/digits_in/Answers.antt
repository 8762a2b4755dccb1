use Rattle.std.proofs.Common.{get_or, take, ap, ◌∙◌, subst, arith, rules}
use Rattle.std.proofs.lemmas.Int.Digits.{digits_value_more, digits_more}
use Rattle.std.proofs.lemmas.List.{take_all, length-take-le}
use Rattle.std.proofs.lemmas.Str.Parse.{digit_at}
use Rattle.std.specs.Str.Parse.{AllDigits, digits_value as worth}
use Rattle.sheet_lines.proofs.Fields.{digit_worth, short_value}
use Rattle.sheet_lines.proofs.number.digits_in.Goals as goal

pub returns-then-not-is_ascii_digit : goal.returns-then-not-is_ascii_digit
returns-then-not-is_ascii_digit c = λ digits. let here = digit_at c.args.field.now c.loop-byte.byte-index digits c.loop-byte-test.true in let other = c.if-not-is_ascii_digit.ensures.cases in search rules

pub overflow_mul-value : goal.overflow_mul-value
overflow_mul-value c =
    let i = c.loop-byte.byte-index in
    let xs = c.args.field.now in
    omega (arith, short_value (take i xs) 7 c.loop-byte.invariant.0 (omega (arith, length-take-le i xs)), c.loop-byte.invariant.1)

pub overflow_add-value : goal.overflow_add-value
overflow_add-value c =
    let i = c.loop-byte.byte-index in
    let xs = c.args.field.now in
    omega (arith, short_value (take i xs) 7 c.loop-byte.invariant.0 (omega (arith, length-take-le i xs)), c.loop-byte.invariant.1, c.type_inv.field i)

pub loop-byte-preserved : goal.loop-byte-preserved
loop-byte-preserved c =
    let i = c.loop-byte.byte-index in
    let xs = c.args.field.now in
    let digit = c.if-not-is_ascii_digit.ensures.cases in
    let is = digit_worth (get_or xs i 0) (omega (arith, digit)) (omega (arith, digit)) in (
      digits_more 10 xs i c.loop-byte-test.true c.loop-byte.invariant.0 c.if-not-is_ascii_digit.ensures.bound,
      omega (arith, digits_value_more 10 xs i c.loop-byte-test.true, is, c.loop-byte.invariant.1),
    )

pub returns : goal.returns
returns c =
    let xs = c.args.field.now in
    let whole = take_all c.loop-byte.byte-index xs (omega arith) in
    (subst (AllDigits 10) whole c.loop-byte.invariant.0, c.loop-byte.invariant.1 ∙ ap (worth 10) whole)
