use Rattle.std.proofs.Common.{◌≡◌, ◌+◌, length, rules, vec_items, vec_len, ap, ◌∙◌, ap₂, arith}
use Rattle.std.specs.List.{insert}
use Rattle.sheet.specs.Parts.{count_of, figures_of}
use Rattle.states.specs.Masses.{mass}
use Rattle.rankings.specs.Orders.{ahead}
use Rattle.rankings.proofs.Orders.{strict_order}
use Rattle.listing.specs.declared.waiting.Waiting.{Waiting}
use Rattle.listing.specs.Queues.{waiting_in}
use Rattle.listing.proofs.Queues.{waiting_many}
use Rattle.listing.proofs.Entries.{own_key, inserted_same, inserted_on, inserted_weighed, inserted_keyed, inserted_in_order}
use Rattle.listing.proofs.queue.Queue.insert.Goals as goal

pub place_for-place-requires-clause-keyed : goal.place_for-place-requires-clause-keyed
place_for-place-requires-clause-keyed g c =
    let q = c.args.self.now in
    own_key (g.R.Ranking.keyed q.ranking) q.sheet.now _ c.args.state.number _ _ c.requires.on_sheet c.new-weighed.ensures.sheet (ap (λ v. v.number) c.new-weighed.ensures.state) c.key.ensures

pub invariant_of-self : goal.invariant_of-self
invariant_of-self g c =
    let q = c.args.self.now in
    let s = q.sheet.now in
    let n = count_of s in
    let ws = vec_items q.entries in
    let ws' = vec_items c.insert.new.self in
    let i = c.place_for-place.result in
    let e : Waiting g.row.R-Key.Denot = record { state = c.args.state; mass = c.mass.result; key = c.key.result } in
    let keyed = g.R.Ranking.keyed q.ranking s in
    let before = ahead (g.R.Ranking.outranks q.ranking s) in
    let order = strict_order n (g.R.Ranking.outranks q.ranking s) (g.met.R.Ranking.one_way _ _) (g.met.R.Ranking.through _ _) in
    let many : length (waiting_in q) ≡ vec_len q.entries = waiting_many q in
    let done = c.insert.ensures.succeeds (omega (arith, many, c.requires.room, q.room)) in
    let items : ws' ≡ insert ws i e = search rules in
    let len : vec_len c.insert.new.self ≡ vec_len q.entries + 1 = search rules in
    let x_on = c.requires.on_sheet in
    let own = own_key (g.R.Ranking.keyed q.ranking) s _ c.args.state.number _ _ x_on c.new-weighed.ensures.sheet (ap (λ v. v.number) c.new-weighed.ensures.state) c.key.ensures in
    let own_mass = c.mass.ensures.value ∙ ap₂ (λ t v. mass (figures_of t) v) c.new-weighed.ensures.sheet (ap (λ v. v.number) c.new-weighed.ensures.state) in
    record {
      room = omega (arith, c.insert.ensures.capacity, q.room);
      few = omega (arith, len, many, c.requires.room);
      on_sheet = inserted_on n (figures_of s) keyed before e ws ws' i items x_on q.on_sheet;
      weighed = inserted_weighed n (figures_of s) keyed before e ws ws' i items own_mass q.weighed;
      keyed = inserted_keyed n (figures_of s) keyed before e ws ws' i items own q.keyed;
      in_order = inserted_in_order n (figures_of s) keyed before e ws ws' i items order x_on q.on_sheet q.in_order c.place_for-place.ensures.place;
    }

pub returns-clause-states : goal.returns-clause-states
returns-clause-states g c =
    let q = c.args.self.now in
    let e : Waiting g.row.R-Key.Denot = record { state = c.args.state; mass = c.mass.result; key = c.key.result } in
    let many : length (waiting_in q) ≡ vec_len q.entries = waiting_many q in
    let done = c.insert.ensures.succeeds (omega (arith, many, c.requires.room, q.room)) in
    let items : vec_items c.insert.new.self ≡ insert (vec_items q.entries) c.place_for-place.result e = search rules in
    inserted_same (count_of q.sheet.now) (figures_of q.sheet.now) (g.R.Ranking.keyed q.ranking q.sheet.now) (ahead (g.R.Ranking.outranks q.ranking q.sheet.now)) e (vec_items q.entries) (vec_items c.insert.new.self) c.place_for-place.result items
