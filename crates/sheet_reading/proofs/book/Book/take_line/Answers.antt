use Rattle.std.proofs.Common.{length, ap, inl, arith}
use Rattle.std.proofs.lemmas.Result.{err_from_is_err_and}
use Rattle.sheet_reading.proofs.LineSteps.{takes_part, takes_feed}
use Rattle.sheet_reading.proofs.NumberSteps.{first_bad, second_bad, third_bad, one_bad, few_numbers}
use Rattle.sheet_reading.proofs.book.Book.take_line.Goals as goal

pub returns-in_err-number-in-Part : goal.returns-in_err-number-in-Part
returns-in_err-number-in-Part c =
    let p = err_from_is_err_and c.from_residual.result c.from_residual.ensures.1 in
    let parted = rw c.in-Part.is at c.requires in
    let bad = c.in_err-number-in-Part.ensures in
    rw (p.1, p.2, c.in-Part.is) (inl (first_bad _ _ _ _ _ parted.0 bad.0 bad.1))

pub returns-in_err-grade-in-Part : goal.returns-in_err-grade-in-Part
returns-in_err-grade-in-Part c =
    let p = err_from_is_err_and c.from_residual-in_err-grade-in-Part.result c.from_residual-in_err-grade-in-Part.ensures.1 in
    let parted = rw c.in-Part.is at c.requires in
    let bad = c.in_err-grade-in-Part.ensures in
    rw (p.1, p.2, c.in-Part.is) (inl (second_bad _ _ _ _ c.in_ok-number-in-Part.ensures _ _ parted.1 bad.0 bad.1))

pub returns-in_err-cents-in-Part : goal.returns-in_err-cents-in-Part
returns-in_err-cents-in-Part c =
    let p = err_from_is_err_and c.from_residual-in_err-cents-in-Part.result c.from_residual-in_err-cents-in-Part.ensures.1 in
    let parted = rw c.in-Part.is at c.requires in
    let bad = c.in_err-cents-in-Part.ensures in
    rw (p.1, p.2, c.in-Part.is) (inl (third_bad _ _ _ _ c.in_ok-number-in-Part.ensures _ c.in_ok-grade-in-Part.ensures _ _ parted.2 bad.0 bad.1))

pub returns-in_ok-cents-in-Part : goal.returns-in_ok-cents-in-Part
returns-in_ok-cents-in-Part c =
    rw c.in-Part.is (takes_part c.args.most c.args.self.now c.in-Part.number c.in-Part.grade c.in-Part.cents _ _ _ c.args.line.number c.take_part.result c.take_part.new.self c.in_ok-number-in-Part.ensures c.in_ok-grade-in-Part.ensures c.in_ok-cents-in-Part.ensures (c.take_part.ensures c.args.most))

pub take_path-requires : goal.take_path-requires
take_path-requires c =
    let parted = rw c.in-Path.is at c.requires in
    omega (arith, few_numbers _ _ parted c.in_ok-numbers-in-Path.ensures, ap length c.deref.ensures.value)

pub returns-in_err-number-in-Feed : goal.returns-in_err-number-in-Feed
returns-in_err-number-in-Feed c =
    let p = err_from_is_err_and c.from_residual-in_err-number-in-Feed.result c.from_residual-in_err-number-in-Feed.ensures.1 in
    let parted = rw c.in-Feed.is at c.requires in
    let bad = c.in_err-number-in-Feed.ensures in
    rw (p.1, p.2, c.in-Feed.is) (inl (one_bad _ _ _ parted bad.0 bad.1))

pub returns-in_ok-number-in-Feed : goal.returns-in_ok-number-in-Feed
returns-in_ok-number-in-Feed c =
    rw c.in-Feed.is (takes_feed c.args.most c.args.self.now c.in-Feed.number _ c.args.line.number c.take_feed.result c.take_feed.new.self c.in_ok-number-in-Feed.ensures (c.take_feed.ensures c.args.most))
