use Rattle.std.proofs.Common.{◌≡◌, ◌<◌, [], length, get_or, take, vec_items, sym, ◌∙◌, subst, subst₂, arith}
use Rattle.std.proofs.lemmas.List.{take_more, take_all}
use Rattle.calls.specs.declared.answers.Call.TheVariants as call
use Rattle.calls.specs.declared.answers.Replied.{Replied}
use Rattle.calls.proofs.Sources.{lawful}
use Rattle.listing.proofs.Calling.{same_itself, same_through, opened_station}
use Rattle.replaying.proofs.Replaying.{Made, none_made, one_made, all_made}
use Rattle.replaying.proofs.carrying.replay.Goals as goal

pub loop-call-init : goal.loop-call-init
loop-call-init g c =
    let room = c.in-Ok.ensures in
    let l = c.in_ok-listing.listing in (
      room.len,
      room.capacity,
      same_itself l,
      subst (λ rs. Made [] rs l) (sym room.items)
          (none_made l c.in_ok-listing.ensures.left),
    )

pub loop-call-preserved : goal.loop-call-preserved
loop-call-preserved g c =
    let l = c.loop-call.listing in
    let l' = c.make-reply.new.listing in
    let i = c.loop-call.call-index in
    let cs = c.args.calls.now in
    let rs = vec_items c.loop-call.replies in
    let r : Replied = record { reply = c.make-reply.result; figures = c.figures-figures.result } in
    let here : i < length cs = omega arith in (
      omega (arith, c.push_reserved.ensures.len, c.loop-call.invariant.0),
      omega (arith, c.push_reserved.ensures.capacity, c.loop-call.invariant.1),
      same_through c.in_ok-listing.listing l l' c.loop-call.invariant.2 c.make-reply.ensures.station,
      subst₂ (λ ds ts. Made ds ts l') (sym (take_more cs i call.Next here)) (sym c.push_reserved.ensures.items)
          (one_made (take i cs) rs l l' c.loop-call.invariant.3 (get_or cs i call.Next) r c.make-reply.ensures.called c.figures-figures.ensures.value),
    )

pub returns : goal.returns
returns g c =
    let l = c.in_ok-listing.listing in
    let l' = c.loop-call.listing in
    let s = c.args.sheet.now in
    let pile = c.args.pile in
    let ranking = c.args.ranking in
    let works = g.S.Structure.works in
    let outranks = g.R.Ranking.outranks in
    let laws = lawful s (works pile) (outranks ranking s) (g.met.S.Structure.contained pile) (g.met.R.Ranking.one_way ranking s) (g.met.R.Ranking.through ranking s) (g.met.R.Ranking.add_follows ranking s) (g.met.R.Ranking.move_follows ranking s) in
    let opened = c.in_ok-listing.ensures in
    let same = c.loop-call.invariant.2 in
    let whole : take c.loop-call.call-index c.args.calls.now ≡ c.args.calls.now = take_all c.loop-call.call-index c.args.calls.now (omega arith) in
    let made = subst (λ cs. Made cs (vec_items c.loop-call.replies) l') whole c.loop-call.invariant.3 in
    record {
      pile_back = c.stop-stopped.ensures.pile ∙ same.pile ∙ opened.pile_is;
      ranking_back = c.stop-stopped.ensures.ranking ∙ same.ranking ∙ opened.ranking_is;
      carried_out = all_made _ laws c.args.calls.now (vec_items c.loop-call.replies) l' (opened_station s pile ranking l l' opened same) made;
    }
