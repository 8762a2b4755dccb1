use Rattle.std.proofs.Common.{◌≡◌, ◌≤◌, [], rules, sym, subst, subst₂, arith}
use Rattle.calls.specs.Calls.{run_said, run_refused, Step, run_step, refused_step}
use Rattle.calls.specs.Replies.{run_answer}
use Rattle.calls.specs.declared.answers.Call.TheVariants as call
use Rattle.calls.proofs.Sources.{lawful}
use Rattle.listing.specs.Listings.{sheet_of, pile_of, ranking_of, memory_of, station_of, RanOn}
use Rattle.listing.proofs.Calling.{called, same_itself}
use Rattle.listing.proofs.listing.Listing.run.Goals as goal

pub returns-in_err-new-clause-called : goal.returns-in_err-new-clause-called
returns-in_err-new-clause-called g c ms left =
    let l = c.args.self.now in
    let s = sheet_of l in
    let p = pile_of l in
    let r = ranking_of l in
    let laws = lawful s (g.S.Structure.works p) (g.R.Ranking.outranks r s) (g.met.S.Structure.contained p) (g.met.R.Ranking.one_way r s) (g.met.R.Ranking.through r s) (g.met.R.Ranking.add_follows r s) (g.met.R.Ranking.move_follows r s) in
    let refused : run_answer c.from_residual.result ≡ run_refused = search rules in
    called l l laws (same_itself l) (call.Run c.args.target c.args.budget) _ ms left []
    (subst (λ a. Step (station_of l) (call.Run c.args.target c.args.budget) (memory_of l) a [] (memory_of l)) (sym refused) (refused_step (search rules)))

pub returns-clause-called : goal.returns-clause-called
returns-clause-called g c ms left =
    let l = c.args.self.now in
    let l' = c.go_on.new.self in
    let s = sheet_of l in
    let p = pile_of l in
    let r = ranking_of l in
    let laws = lawful s (g.S.Structure.works p) (g.R.Ranking.outranks r s) (g.met.S.Structure.contained p) (g.met.R.Ranking.one_way r s) (g.met.R.Ranking.through r s) (g.met.R.Ranking.add_follows r s) (g.met.R.Ranking.move_follows r s) in
    let aim = c.in_ok-new.field-0 in
    let target-is : aim.target ≡ c.args.target = search rules in
    let budget-is : aim.budget ≡ c.args.budget = search rules in
    let ran = subst₂ (λ t b. RanOn t b c.go_on.result l l') target-is budget-is c.go_on.ensures.ran in
    let whole : c.args.target ≤ 1000000 = omega (arith, target-is, aim.whole) in
    let e = c.go_on.result.ending in
    let step = subst (λ n. Step (station_of l) (call.Run c.args.target c.args.budget) (memory_of l) (run_said (record { ending = e; count = n })) ran.0 (memory_of l')) ran.1 (run_step e whole ran.2) in
    called l l' laws c.go_on.ensures.station (call.Run c.args.target c.args.budget) (run_said c.go_on.result) ms left ran.0 step
