use Rattle.std.proofs.Common.{◌≡◌, true, [], sym, refl, subst, arith}
use Rattle.states.specs.Lists.{Pairwise}
use Rattle.rankings.specs.Orders.{ahead}
use Rattle.calls.specs.Histories.{Led, none}
use Rattle.calls.specs.Stations.{station}
use Rattle.listing.specs.Queues.{waiting_in}
use Rattle.listing.proofs.Opening.{empty_alone, opened_sums, opened_count}
use Rattle.listing.proofs.listing.Listing.begun.Goals as goal

pub invariant_of-result : goal.invariant_of-result
invariant_of-result g c =
    let q' = c.insert.new.self in
    let alone = empty_alone _ (waiting_in c.args.queue) (waiting_in q') c.new.ensures c.requires c.insert.ensures.states in
    record {
      sums = omega (arith, opened_sums q'.sheet.now (waiting_in q') alone);
      count = omega (arith, opened_count q'.sheet.now (waiting_in q') alone);
    }

pub returns : goal.returns
returns g c =
    let q' = c.insert.new.self in
    let basis = c.insert.ensures.basis in
    let alone = empty_alone _ (waiting_in c.args.queue) (waiting_in q') c.new.ensures c.requires c.insert.ensures.states in
    record {
      sheet_is = basis.sheet;
      pile_is = refl;
      ranking_is = basis.ranking;
      left = subst (λ zs. Led (station q'.sheet.now (g.S.Structure.works c.args.pile) (g.R.Ranking.outranks q'.ranking q'.sheet.now)) [] (record { waiting = zs; up = 0; down = 0; handed = 0 })) (sym alone) none;
      in_line = subst (Pairwise (λ x y. ahead (g.R.Ranking.outranks q'.ranking q'.sheet.now) y x ≡ true)) (sym alone) (tt, tt);
    }
