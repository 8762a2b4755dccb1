use Rattle.std.proofs.Common.{◌-◌, ◌≤◌}
use Rattle.listing.specs.Listings.{memory_of, station_of, SameStation}
use Rattle.listing.proofs.Running.{SoFar}
use Rattle.listing.proofs.listing.Listing.go_on.Given as goal

abbrev pub invariant-loop-ending : goal.invariant-loop-ending
invariant-loop-ending g l =
    (l.count ≤ l.aim.budget) × SameStation l.initial.self l.self × SoFar (station_of l.initial.self) l.aim.target l.aim.budget (memory_of l.initial.self) l.count (memory_of l.self)

abbrev pub decreases-loop-ending : goal.decreases-loop-ending
decreases-loop-ending g l = l.aim.budget - l.count
