use Rattle.std.proofs.Common.{◌-◌, string_bytes}
use Rattle.listing.specs.Listings.{SameStation}
use Rattle.listing_text.proofs.Listing.{Made}
use Rattle.listing_text.proofs.stepping.list_steps.Given as goal

abbrev pub invariant-loop-step : goal.invariant-loop-step
invariant-loop-step g l = SameStation l.initial.listing l.listing × Made l.most l.listing (string_bytes l.out)

abbrev pub decreases-loop-step : goal.decreases-loop-step
decreases-loop-step g l = l.most - l.listing.handed
