-- What a queue says of the states that wait in it. Assumes nothing.
use Rattle.std.specs.Prelude.{◌≡◌, ℕ, List, ◌∷◌, ◌++◌, vec_items}
use Rattle.sheet.specs.Parts.{count_of, figures_of}
use Rattle.states.specs.Lists.{Same}
use Rattle.rankings.specs.Orders.{ahead}
use Rattle.rankings.specs.declared.ranking.Ranking.{Ghosts as RankingGhosts}
use Rattle.listing.specs.Waiters.{states_of, IsForemost}
use Rattle.listing.specs.declared.queue.Queue.{Queue}
use Rattle.listing.specs.declared.waiting.Waiting.{Waiting}

-- the states that wait
abbrev pub waiting_in : {R K : Type 0} {rg : RankingGhosts R K} → Queue R K rg → List ℕ
waiting_in q = states_of (vec_items q.entries)

-- e is the foremost entry
abbrev pub ForemostOf : {R K : Type 0} {rg : RankingGhosts R K} → Queue R K rg → Waiting K → Type 0
ForemostOf {rg = rg} q e = IsForemost (count_of q.sheet.now) (figures_of q.sheet.now) (ahead (rg.outranks q.ranking q.sheet.now)) (vec_items q.entries) e

-- sheet and ranking are the same
pub record SameBasis {R K : Type 0} {rg : RankingGhosts R K} (q q' : Queue R K rg) : Type 0 where
  pub sheet : q'.sheet.now ≡ q.sheet.now
  pub ranking : q'.ranking ≡ q.ranking

-- the foremost was taken away
abbrev pub Removed : {R K : Type 0} {rg : RankingGhosts R K} → Queue R K rg → Queue R K rg → Type 0
Removed {K = K} q q' = (e : Waiting K) → ForemostOf q e → Same (e.state.number ∷ waiting_in q') (waiting_in q)

-- the foremost was taken away, and these states began to wait
abbrev pub Replaced : {R K : Type 0} {rg : RankingGhosts R K} → List ℕ → List ℕ → Queue R K rg → Queue R K rg → Type 0
Replaced {K = K} added moved q q' = (e : Waiting K) → ForemostOf q e → Same (e.state.number ∷ waiting_in q') (added ++ (moved ++ waiting_in q))
