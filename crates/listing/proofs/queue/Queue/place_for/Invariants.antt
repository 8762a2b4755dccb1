use Rattle.std.proofs.Common.{◌≡◌, ℕ, suc, ◌-◌, ◌<◌, ◌≤◌, true, false, length, get_or, vec_items}
use Rattle.rankings.specs.Orders.{ahead}
use Rattle.listing.specs.Waiters.{states_of}
use Rattle.listing.proofs.queue.Queue.place_for.Given as goal

-- the entry is ahead of the one before low, and not of the one at high
abbrev pub invariant-loop-low : goal.invariant-loop-low
invariant-loop-low g l =
    (l.low ≤ l.high) × (l.high ≤ length (vec_items l.self.entries))
    × ((j : ℕ) → suc j ≡ l.low → ahead (g.R.Ranking.outranks l.self.ranking l.self.sheet.now) l.newcomer.state.number (get_or (states_of (vec_items l.self.entries)) j 0) ≡ true)
    × (l.high < length (vec_items l.self.entries) → ahead (g.R.Ranking.outranks l.self.ranking l.self.sheet.now) l.newcomer.state.number (get_or (states_of (vec_items l.self.entries)) l.high 0) ≡ false)

abbrev pub decreases-loop-low : goal.decreases-loop-low
decreases-loop-low g l = l.high - l.low
