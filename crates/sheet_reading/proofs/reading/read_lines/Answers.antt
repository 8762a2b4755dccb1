use Rattle.std.proofs.Common.{◌+◌, drop, refl, ap, ◌∙◌, ap₂}
use Rattle.std.proofs.lemmas.Result.{err_from_is_err_and}
use Rattle.sheet_lines.specs.Lines.{rest_of}
use Rattle.sheet_reading.specs.Books.{content_of}
use Rattle.sheet_reading.proofs.TextSteps.{at_start, one_line, line_faulty, no_line, faulty_at}
use Rattle.sheet_reading.proofs.reading.read_lines.Goals as goal

pub loop-book-init : goal.loop-book-init
loop-book-init c =
    let reader = c.new-reader.ensures in
    (at_start _ _ _ _ _ c.new-book.ensures (ap₂ drop reader.place reader.text) refl, reader.lines, reader.text)

pub returns-in_err-line : goal.returns-in_err-line
returns-in_err-line c =
    let p = err_from_is_err_and c.from_residual.result c.from_residual.ensures.1 in
    let so = c.loop-book.invariant in
    let fault = no_line c.args.most (content_of c.loop-book.book) c.loop-book.reader c.in_err-line.field-0.0 c.in_err-line.ensures.0 in
    rw (p.1, p.2) (faulty_at _ _ _ _ _ _ _ c.requires so.0 (ap (λ n. n + 1) so.1) fault)

pub returns-in_err-take_line : goal.returns-in_err-take_line
returns-in_err-take_line c =
    let p = err_from_is_err_and c.from_residual-in_err-take_line.result c.from_residual-in_err-take_line.ensures.1 in
    let so = c.loop-book.invariant in
    let read = rw c.in-Some.is at c.in_ok-line.ensures in
    let fault = line_faulty c.args.most c.args.text.now c.loop-book.book (rest_of c.loop-book.reader) c.loop-book.lines so.0 c.in-Some.line.token (rest_of c.next_line.new.self) read.parted (read.bytes, read.one_line) c.in-Some.line.number c.in_err-take_line.field-0.0 c.take_line.new.self c.in_err-take_line.ensures in
    rw (p.1, p.2) (faulty_at _ _ _ _ _ _ _ c.requires so.0 (read.number ∙ ap (λ n. n + 1) so.1) fault)

pub loop-book-preserved : goal.loop-book-preserved
loop-book-preserved c =
    let so = c.loop-book.invariant in
    let read = rw c.in-Some.is at c.in_ok-line.ensures in (
      one_line c.args.most c.args.text.now c.loop-book.book (rest_of c.loop-book.reader) c.loop-book.lines so.0 c.in-Some.line.token (rest_of c.next_line.new.self) read.parted (read.bytes, read.one_line) c.in-Some.line.number c.take_line.new.self c.in-Some.line.number c.in_ok-take_line.ensures (read.number ∙ ap (λ n. n + 1) so.1),
      read.lines,
      read.text ∙ so.2,
    )
