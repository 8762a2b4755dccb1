use Rattle.std.proofs.Common.{◌≡◌, ◌-◌, ◌^◌, length, vec_items, vec_len, take, ap, ◌∙◌, arith}
use Rattle.sheet.specs.Parts.{count_of, figures_of}
use Rattle.rankings.specs.Orders.{ahead}
use Rattle.listing.proofs.Entries.{front_on, front_weighed, front_keyed, front_in_order, foremost_removed}
use Rattle.listing.proofs.queue.Queue.remove_foremost.Goals as goal

pub invariant_of-self : goal.invariant_of-self
invariant_of-self g c =
    let q = c.args.self.now in
    let s = q.sheet.now in
    let k = vec_len q.entries - 1 in
    let ws = vec_items q.entries in
    let ws' = vec_items c.pop.new.self in
    record {
      room = omega (arith, c.pop.ensures.capacity, q.room);
      few = omega (arith, c.pop.ensures.len, q.few);
      on_sheet = front_on k ws ws' c.pop.ensures.rest (2 ^ count_of s) q.on_sheet;
      weighed = front_weighed k ws ws' c.pop.ensures.rest (figures_of s) q.weighed;
      keyed = front_keyed k ws ws' c.pop.ensures.rest (g.R.Ranking.keyed q.ranking s) q.keyed;
      in_order = front_in_order k ws ws' c.pop.ensures.rest (ahead (g.R.Ranking.outranks q.ranking s)) q.in_order;
    }

pub returns-clause-removed : goal.returns-clause-removed
returns-clause-removed g c e foremost =
    let q = c.args.self.now in
    let ws = vec_items q.entries in
    let many : vec_len q.entries - 1 ≡ length ws - 1 = omega (arith, q.entries.ok.0) in
    foremost_removed (count_of q.sheet.now) (figures_of q.sheet.now) (ahead (g.R.Ranking.outranks q.ranking q.sheet.now)) ws (vec_items c.pop.new.self) e foremost (c.pop.ensures.rest ∙ ap (λ k. take k ws) many)
