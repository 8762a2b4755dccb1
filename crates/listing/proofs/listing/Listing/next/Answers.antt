use Rattle.calls.specs.Calls.{next_said, next_step}
use Rattle.calls.specs.Handing.{handed_by}
use Rattle.calls.specs.Replies.{next_answer}
use Rattle.calls.specs.declared.answers.Call.TheVariants as call
use Rattle.calls.proofs.Sources.{lawful}
use Rattle.listing.specs.Listings.{sheet_of, pile_of, ranking_of}
use Rattle.listing.proofs.Calling.{called}
use Rattle.listing.proofs.listing.Listing.next.Goals as goal

pub returns-clause-called : goal.returns-clause-called
returns-clause-called g c ms left =
    let l = c.args.self.now in
    let s = sheet_of l in
    let p = pile_of l in
    let r = ranking_of l in
    let laws = lawful s (g.S.Structure.works p) (g.R.Ranking.outranks r s) (g.met.S.Structure.contained p) (g.met.R.Ranking.one_way r s) (g.met.R.Ranking.through r s) (g.met.R.Ranking.add_follows r s) (g.met.R.Ranking.move_follows r s) in
    let a = next_answer c.advance.result in
    called l c.advance.new.self laws c.advance.ensures.station call.Next (next_said a) ms left (handed_by a) (next_step a c.advance.ensures.advanced)
