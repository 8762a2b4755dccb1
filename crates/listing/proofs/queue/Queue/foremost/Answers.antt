use Rattle.std.proofs.Common.{◌≡◌, ◌-◌, [], length, vec_items, sym, ap, ◌∙◌, subst, MatchOption}
use Rattle.std.specs.List.{slice_get}
use Rattle.sheet.specs.Parts.{count_of, figures_of}
use Rattle.rankings.specs.Orders.{ahead}
use Rattle.rankings.proofs.Orders.{strict_order}
use Rattle.listing.specs.Queues.{waiting_in, ForemostOf}
use Rattle.listing.proofs.Entries.{foremost_found}
use Rattle.listing.proofs.queue.Queue.foremost.Goals as goal

pub returns : goal.returns
returns g c =
    let q = c.args.self.now in
    let s = q.sheet.now in
    let o = g.R.Ranking.outranks q.ranking s in
    let order = strict_order (count_of s) o (g.met.R.Ranking.one_way _ _) (g.met.R.Ranking.through _ _) in
    let is = c.last_of.ensures ∙ ap (λ ws. slice_get ws (length ws - 1)) c.deref.ensures.value in
    subst (λ r. MatchOption r (waiting_in q ≡ []) (λ e. ForemostOf q e)) (sym is) (foremost_found (count_of s) (figures_of s) (ahead o) order (vec_items q.entries) q.on_sheet q.weighed q.in_order)
