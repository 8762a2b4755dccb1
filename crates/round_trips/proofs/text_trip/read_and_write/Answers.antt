use Rattle.std.proofs.Common.{refl}
use Rattle.std.proofs.lemmas.Result.{err_from_is_err_and}
use Rattle.sheet.specs.Parts.{drafted}
use Rattle.round_trips.proofs.Trips.{was_read, text_written, text_unwritten}
use Rattle.round_trips.proofs.text_trip.read_and_write.Goals as goal

pub returns-in_err-found : goal.returns-in_err-found
returns-in_err-found c =
    let p = err_from_is_err_and c.from_residual.result c.from_residual.ensures.1 in
    let reads = c.in_err-found.ensures.reads in
    rw (p.1, p.2) (reads.0, λ d holds. c.in_err-found.ensures.exact.never_refused d _ holds reads.0, reads.2, refl)

pub returns-in_err-write_found : goal.returns-in_err-write_found
returns-in_err-write_found c =
    let p = err_from_is_err_and c.from_residual-in_err-write_found.result c.from_residual-in_err-write_found.ensures.1 in
    let was = was_read c.args.text.now (drafted c.args.draft) _ _ _ _ c.in_ok-found.ensures.reads in
    let short = text_unwritten _ _ _ _ _ was _ _ _ _ c.seal-sheet.ensures refl _ c.in_err-write_found.ensures in
    rw (p.1, p.2) ((was.content, (was.holds, was.list_is)), short.0, short.1, c.in_err-write_found.ensures.1)

pub returns : goal.returns
returns c =
    let was = was_read c.args.text.now (drafted c.args.draft) _ _ _ _ c.in_ok-found.ensures.reads in
    let written = text_written _ _ _ _ _ was _ _ _ _ c.seal-sheet.ensures refl _ c.in_ok-write_found.ensures in
    ((was.content, (was.holds, was.list_is)), written.0, written.1)
