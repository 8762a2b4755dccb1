use Rattle.std.proofs.Common.{◌≡◌, ◌^◌, ◌+◌, ◌≤◌, ap, sym, refl, subst, arith, ltb-true}
use Rattle.sheet.specs.Parts.{figures_of, count_of}
use Rattle.states.specs.Answers.{numbers}
use Rattle.states.specs.Masses.{total, mass}
use Rattle.states.specs.Sums.{sum_of}
use Rattle.states.specs.Trees.{tree_sum}
use Rattle.states.proofs.Masses.{figures_fine, mass_le}
use Rattle.listing.specs.Queues.{waiting_in}
use Rattle.listing.proofs.Queues.{waiting_many, foremost_state}
use Rattle.listing.proofs.Turns.{turn, would_wait, add_within, move_within, sums_after, count_after, handed_next}
use Rattle.listing.proofs.listing.Listing.advance.Goals as goal

pub up_after-self-requires : goal.up_after-self-requires
up_after-self-requires g c =
    let l = c.args.self.now in
    let s = l.queue.sheet.now in
    (omega (arith, l.sums), omega (arith, c.in-Some.ensures.weighed, mass_le (figures_of s) (figures_fine s) c.in-Some.first.state.number))

pub replace_foremost-requires-clause-added_on : goal.replace_foremost-requires-clause-added_on
replace_foremost-requires-clause-added_on g c z is =
    let next = c.next_states-added in
    add_within c.verdict_on-verdict.result _ c.in-Some.first.state.number z.number (numbers next.result.0) c.in-Some.ensures.on_sheet (ap numbers is) next.ensures.added

pub replace_foremost-requires-clause-moved_on : goal.replace_foremost-requires-clause-moved_on
replace_foremost-requires-clause-moved_on g c z is =
    let next = c.next_states-added in
    move_within _ c.in-Some.first.state.number z.number (numbers next.result.1) c.in-Some.ensures.on_sheet (ap numbers is) next.ensures.moved

pub invariant_of-self : goal.invariant_of-self
invariant_of-self g c =
    let l = c.args.self.now in
    let s = l.queue.sheet.now in
    let e = c.in-Some.first in
    let v = c.verdict_on-verdict.result in
    let next = c.next_states-added in
    let q' = c.replace_foremost.new.self in
    let basis = c.replace_foremost.ensures.basis in
    let up' = c.up_after-self.result in
    let down' = c.down_after-self.result in
    let t = turn s (g.S.Structure.works l.pile) (g.R.Ranking.outranks l.queue.ranking s) e.state.number (waiting_in l.queue) (waiting_in q') v (numbers next.result.0) (numbers next.result.1)
    (figures_fine s) c.in-Some.ensures.on_sheet c.verdict_on-verdict.ensures next.ensures.added next.ensures.moved (c.replace_foremost.ensures.replaced e c.in-Some.ensures) in
    record {
      sums = subst (λ u. up' + down' + sum_of (tree_sum (count_of u) (mass (figures_of u))) (waiting_in q') ≡ total) (sym basis.sheet)
          (sums_after s t v c.verdict_on-verdict.ensures e.mass c.in-Some.ensures.weighed l.up l.down up' down' c.up_after-self.ensures c.down_after-self.ensures l.sums);
      count = subst (λ u. l.handed + 1 + sum_of (tree_sum (count_of u) (λ x. 1)) (waiting_in q') ≤ 2 ^ count_of u) (sym basis.sheet)
          (count_after s t v c.verdict_on-verdict.ensures e.mass c.in-Some.ensures.weighed l.up l.down up' down' c.up_after-self.ensures c.down_after-self.ensures l.handed l.count);
    }

pub returns-clause-advanced : goal.returns-clause-advanced
returns-clause-advanced g c =
    let l = c.args.self.now in
    let s = l.queue.sheet.now in
    let works = g.S.Structure.works l.pile in
    let e = c.in-Some.first in
    let v = c.verdict_on-verdict.result in
    let next = c.next_states-added in
    let q' = c.replace_foremost.new.self in
    let t = turn s works (g.R.Ranking.outranks l.queue.ranking s) e.state.number (waiting_in l.queue) (waiting_in q') v (numbers next.result.0) (numbers next.result.1)
    (figures_fine s) c.in-Some.ensures.on_sheet c.verdict_on-verdict.ensures next.ensures.added next.ensures.moved (c.replace_foremost.ensures.replaced e c.in-Some.ensures) in
    handed_next s t v c.verdict_on-verdict.ensures e.mass c.in-Some.ensures.weighed l.up l.down c.up_after-self.result c.down_after-self.result c.up_after-self.ensures c.down_after-self.ensures l.handed
    (foremost_state l.queue works l.up l.down l.handed e c.in-Some.ensures) (omega (arith, waiting_many q', q'.few))

pub returns-then-crowded-clause-advanced : goal.returns-then-crowded-clause-advanced
returns-then-crowded-clause-advanced g c =
    let l = c.args.self.now in
    let s = l.queue.sheet.now in
    let works = g.S.Structure.works l.pile in
    let e = c.in-Some.first in
    let next = c.next_states-added in
    let many = ltb-true 1025 _ (sym c.if-crowded.ensures) in
    let would = would_wait s works (g.R.Ranking.outranks l.queue.ranking s) e.state.number (waiting_in l.queue) c.verdict_on-verdict.result (numbers next.result.0) (numbers next.result.1) c.verdict_on-verdict.ensures next.ensures.added next.ensures.moved in
    ((e.state.number, foremost_state l.queue works l.up l.down l.handed e c.in-Some.ensures, omega (arith, would, many, c.len.ensures.value)), refl)
