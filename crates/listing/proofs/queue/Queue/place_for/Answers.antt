use Rattle.std.proofs.Common.{◌≡◌, ℕ, true, false, ◌+◌, ◌-◌, ◌/◌, ◌<◌, length, get_or, vec_items, ap, ◌∙◌, arith}
use Rattle.sheet.specs.Parts.{count_of}
use Rattle.rankings.specs.Orders.{ahead}
use Rattle.rankings.proofs.Orders.{strict_order}
use Rattle.listing.specs.Waiters.{states_of}
use Rattle.listing.proofs.Entries.{says, place_found}
use Rattle.listing.proofs.queue.Queue.place_for.Goals as goal

pub loop-low-preserved-then-is_ahead : goal.loop-low-preserved-then-is_ahead
loop-low-preserved-then-is_ahead g c =
    let q = c.args.self.now in
    let s = q.sheet.now in
    let ws = vec_items q.entries in
    let o = g.R.Ranking.outranks q.ranking s in
    let order = strict_order (count_of s) o (g.met.R.Ranking.one_way _ _) (g.met.R.Ranking.through _ _) in
    let i : ℕ = c.loop-low.low + (c.loop-low.high - c.loop-low.low) / 2 in
    let within : i < length ws = omega arith in
    let said = says (count_of s) (ahead o) (g.R.Ranking.keyed q.ranking s) order ws q.on_sheet q.keyed q.in_order c.args.newcomer.state.number c.requires.on_sheet i c.index.result.now true within c.index.ensures
    (λ on key. c.if-is_ahead.ensures c.requires.on_sheet on c.requires.keyed key) in (
      omega arith,
      omega arith,
      (λ j e. let same : j ≡ i = omega arith in ap (λ k. ahead o c.args.newcomer.state.number (get_or (states_of ws) k 0)) same ∙ said),
      c.loop-low.invariant.3,
    )

pub loop-low-preserved : goal.loop-low-preserved
loop-low-preserved g c =
    let q = c.args.self.now in
    let s = q.sheet.now in
    let ws = vec_items q.entries in
    let o = g.R.Ranking.outranks q.ranking s in
    let order = strict_order (count_of s) o (g.met.R.Ranking.one_way _ _) (g.met.R.Ranking.through _ _) in
    let i : ℕ = c.loop-low.low + (c.loop-low.high - c.loop-low.low) / 2 in
    let within : i < length ws = omega arith in
    let said = says (count_of s) (ahead o) (g.R.Ranking.keyed q.ranking s) order ws q.on_sheet q.keyed q.in_order c.args.newcomer.state.number c.requires.on_sheet i c.index.result.now false within c.index.ensures
    (λ on key. c.if-is_ahead.ensures c.requires.on_sheet on c.requires.keyed key) in (
      omega arith,
      omega arith,
      c.loop-low.invariant.2,
      (λ h. said),
    )

pub returns-clause-place : goal.returns-clause-place
returns-clause-place g c =
    let q = c.args.self.now in
    let s = q.sheet.now in
    let ws = vec_items q.entries in
    let o = g.R.Ranking.outranks q.ranking s in
    let order = strict_order (count_of s) o (g.met.R.Ranking.one_way _ _) (g.met.R.Ranking.through _ _) in
    let x = c.args.newcomer.state.number in
    let same : c.loop-low.low ≡ c.loop-low.high = omega arith in
    place_found (count_of s) (ahead o) (g.R.Ranking.keyed q.ranking s) order ws q.on_sheet q.keyed q.in_order x c.requires.on_sheet c.loop-low.low (omega arith) c.loop-low.invariant.2
    (λ h. ap (λ k. ahead o x (get_or (states_of ws) k 0)) same ∙ c.loop-low.invariant.3 (omega arith))
