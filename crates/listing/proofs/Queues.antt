-- Queues and the states that wait in them. Assumes nothing.
use Rattle.std.proofs.Common.{◌≡◌, ℕ, Bool, length, vec_items, vec_len, arith}
use Rattle.std.proofs.lemmas.List.{length-map}
use Rattle.rankings.specs.Orders.{ahead}
use Rattle.rankings.specs.declared.ranking.Ranking.{Ghosts as RankingGhosts}
use Rattle.sheet.specs.Parts.{count_of, figures_of}
use Rattle.calls.specs.Handing.{Foremost}
use Rattle.calls.specs.Stations.{station}
use Rattle.listing.specs.Queues.{waiting_in, ForemostOf}
use Rattle.listing.specs.declared.queue.Queue.{Queue}
use Rattle.listing.specs.declared.waiting.Waiting.{Waiting}
use Rattle.listing.proofs.Entries.{foremost_waits}

module _ {R K : Type 0} {rg : RankingGhosts R K} (q : Queue R K rg) where
  pub waiting_many : length (waiting_in q) ≡ vec_len q.entries
  waiting_many = omega (arith, length-map (vec_items q.entries) (λ e. e.state.number), q.entries.ok.0)

  -- the foremost entry is of the foremost state
  pub foremost_state : (works : ℕ → Bool) (up down handed : ℕ) (e : Waiting K) → ForemostOf q e
      → Foremost (station q.sheet.now works (rg.outranks q.ranking q.sheet.now)) (record { waiting = waiting_in q; up = up; down = down; handed = handed }) e.state.number
  foremost_state works up down handed e found = record {
    waits = foremost_waits (count_of q.sheet.now) (figures_of q.sheet.now) (ahead (rg.outranks q.ranking q.sheet.now)) (vec_items q.entries) e found;
    first = found.first;
  }
