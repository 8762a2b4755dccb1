use Rattle.std.proofs.Common.{refl}
use Rattle.std.proofs.lemmas.Result.{err_from_is_err_and}
use Rattle.sheet.specs.Parts.{drafted}
use Rattle.round_trips.proofs.Trips.{sheet_read, sheet_unread}
use Rattle.round_trips.proofs.sheet_trip.write_and_read.Goals as goal

pub returns-in_err-read_front : goal.returns-in_err-read_front
returns-in_err-read_front c =
    let p = err_from_is_err_and c.from_residual-in_err-read_front.result c.from_residual-in_err-read_front.ensures.1 in
    let reads = c.in_err-read_front.ensures in
    rw (p.1, p.2) ((c.in_ok-count.count, c.in_ok-count.ensures), sheet_unread c.args.sheet.now c.args.paths.now c.args.feed _ _ _ c.in_ok-count.count (drafted c.args.draft.now) _ _ _ _ c.in_ok-count.ensures refl reads, reads.1, reads.2)

pub returns : goal.returns
returns c =
    ((c.in_ok-count.count, c.in_ok-count.ensures), sheet_read c.args.sheet.now c.args.paths.now c.args.feed _ _ _ c.in_ok-count.count (drafted c.args.draft.now) _ _ _ _ c.in_ok-count.ensures refl c.in_ok-read_front.ensures)
