use Rattle.std.proofs.Common.{◌≡◌, [], rules, sym, subst}
use Rattle.calls.specs.Calls.{figures_said, Step, figures_step}
use Rattle.calls.specs.declared.answers.Call.TheVariants as call
use Rattle.calls.specs.declared.answers.Figures.{Figures}
use Rattle.calls.specs.Memories.{figures_at}
use Rattle.calls.proofs.Sources.{lawful}
use Rattle.listing.specs.Listings.{sheet_of, pile_of, ranking_of, memory_of, station_of}
use Rattle.listing.proofs.Calling.{called, same_itself}
use Rattle.listing.proofs.listing.Listing.figures.Goals as goal

pub returns-clause-called : goal.returns-clause-called
returns-clause-called g c ms left =
    let l = c.args.self.now in
    let s = sheet_of l in
    let p = pile_of l in
    let r = ranking_of l in
    let laws = lawful s (g.S.Structure.works p) (g.R.Ranking.outranks r s) (g.met.S.Structure.contained p) (g.met.R.Ranking.one_way r s) (g.met.R.Ranking.through r s) (g.met.R.Ranking.add_follows r s) (g.met.R.Ranking.move_follows r s) in
    let is : ◌≡◌ {A = Figures} (record { lower = c.lower.result; upper = c.upper.result; handed = l.handed; waiting = c.len.result }) (figures_at (memory_of l)) = search rules in
    called l l laws (same_itself l) call.Figures _ ms left [] (subst (λ f. Step (station_of l) call.Figures (memory_of l) (figures_said f) [] (memory_of l)) (sym is) figures_step)
