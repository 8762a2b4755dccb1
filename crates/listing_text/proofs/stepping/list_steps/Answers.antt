use Rattle.std.proofs.Common.{string_bytes, sym, arith, Ok, Err, Result}
use Rattle.std.specs.Result.{OnOk}
use Rattle.calls.proofs.Sources.{lawful}
use Rattle.listing.specs.Listings.{sheet_of, pile_of, ranking_of, station_of}
use Rattle.listing.proofs.Calling.{same_itself, same_through, station_same}
use Rattle.listing_text.proofs.Listing.{none_made, one_made, all_made}
use Rattle.listing_text.proofs.stepping.list_steps.Goals as goal

on_ok : {X E P Q : Type 0} (r : Result X E) → OnOk r P → (P → Q) → OnOk r Q
on_ok (Ok x) p f = f p
on_ok (Err e) p f = tt

pub loop-step-init : goal.loop-step-init
loop-step-init g c =
    let l = c.args.listing.now in
    (same_itself l, none_made c.args.most l (string_bytes c.args.out.now) c.requires.opened c.requires.headed)

pub loop-step-preserved : goal.loop-step-preserved
loop-step-preserved g c =
    let l = c.loop-step.listing in
    let l' = c.next_step.new.listing in
    let same = c.next_step.ensures.station in
    let more = one_made c.args.most l l' (string_bytes c.loop-step.out) (string_bytes c.write_row.new.out) c.in-Ok.step c.loop-step.invariant.1 same c.in-Ok.ensures.step c.in_ok-write_row-in-Ok.ensures in
    (same_through c.args.listing.now l l' c.loop-step.invariant.0 same, more.0)

pub loop-step-smaller : goal.loop-step-smaller
loop-step-smaller g c =
    let more = one_made c.args.most c.loop-step.listing c.next_step.new.listing (string_bytes c.loop-step.out) (string_bytes c.write_row.new.out) c.in-Ok.step c.loop-step.invariant.1 c.next_step.ensures.station c.in-Ok.ensures.step c.in_ok-write_row-in-Ok.ensures in
    omega (arith, more.1, more.2)

pub returns : goal.returns
returns g c =
    let l0 = c.args.listing.now in
    let l = c.loop-step.listing in
    let l' = c.next_step.new.listing in
    let s = sheet_of l0 in
    let pile = pile_of l0 in
    let ranking = ranking_of l0 in
    let laws = lawful s (g.S.Structure.works pile) (g.R.Ranking.outranks ranking s) (g.met.S.Structure.contained pile) (g.met.R.Ranking.one_way ranking s) (g.met.R.Ranking.through ranking s) (g.met.R.Ranking.add_follows ranking s) (g.met.R.Ranking.move_follows ranking s) in
    let same = c.next_step.ensures.station in
    let is = sym (station_same l0 l' (same_through l0 l l' c.loop-step.invariant.0 same)) in
    on_ok c.write_end.result c.write_end.ensures (all_made c.args.most l l' (string_bytes c.loop-step.out) (string_bytes c.write_end.new.out) c.in-Err.ending (station_of l0) is laws c.loop-step.invariant.1 same c.in-Err.ensures.step)
