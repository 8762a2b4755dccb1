use Rattle.std.proofs.Common.{◌≡◌, ◌≤◌, length, take, vec_items, vec_len, vec_capacity}
use Rattle.listing.specs.Listings.{SameStation}
use Rattle.replaying.proofs.Replaying.{Made}
use Rattle.replaying.proofs.carrying.replay.Given as goal

abbrev pub invariant-loop-call : goal.invariant-loop-call
invariant-loop-call g l =
    (vec_len l.replies ≡ l.call-index) × (length l.calls ≤ vec_capacity l.replies) × SameStation l.initial.listing l.listing
    × Made (take l.call-index l.calls) (vec_items l.replies) l.listing
