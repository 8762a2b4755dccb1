use Rattle.std.proofs.Common.{◌≡◌, map, vec_items, refl, rules}
use Rattle.std.proofs.lemmas.Fn.{fold_over, fronts}
use Rattle.std.proofs.lemmas.Iterator.{YieldsList-from_slice}
use Rattle.networks.specs.Networks.{link_of, over_link, one_round}
use Rattle.networks.proofs.Links.{round_over}
use Rattle.networks.proofs.network.Network.round.Goals as goal

pub returns : goal.returns
returns c =
    let x = c.args.state.number in
    fold_over fronts (λ wire. wire.now) _
    (λ wires reached. reached.number ≡ one_round x (map link_of wires) c.args.start.number) _
    (λ wires reached wire after f before k.
    let one : after.number ≡ over_link x (link_of wire.now) reached.number = search rules in
    (round_over x wires wire.now _ _ _ before one, search rules))
    _ (vec_items c.args.self.now.wires) _ _ (YieldsList-from_slice _ cc).runs refl c.fold.ensures.ran
