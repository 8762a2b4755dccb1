use Rattle.std.proofs.Common.{◌≡◌, map, vec_items, IfOk, subst, ap, ◌∙◌, rules}
use Rattle.std.proofs.lemmas.Iterator.{YieldsList-from_slice, YieldsList-from_map_by}
use Rattle.std.proofs.lemmas.Iterator.Adapters.{serves_from_places}
use Rattle.std.proofs.lemmas.Iterator.Consumers.{map_from_collect}
use Rattle.std.proofs.lemmas.List.{map-id}
use Rattle.networks.specs.Networks.{link_of, end_too_high, part_unknown}
use Rattle.networks.proofs.Links.{none_at}
use Rattle.networks.proofs.network.Network.wires.Goals as goal

pub collect-requires-clause-can : goal.collect-requires-clause-can
collect-requires-clause-can c =
    let links = c.args.links.now in (
      tt,
      serves_from_places (YieldsList-from_slice links cc) (λ link q k. search rules)
          (λ link i inside is.
          let ends = ap end_too_high is ∙ none_at end_too_high links i link.now c.requires.ends inside in
          let part = ap part_unknown is ∙ none_at part_unknown links i link.now c.requires.parts inside in
          search rules),
    )

pub returns-clause-links : goal.returns-clause-links
returns-clause-links c =
    subst (λ links. IfOk c.collect.result (λ wires. map link_of (vec_items wires) ≡ links)) (map-id c.args.links.now)
    (map_from_collect _ c.collect.ensures.ran (YieldsList-from_map_by _ link_of (λ link. link) (YieldsList-from_slice c.args.links.now cc) c.map.ensures.closure (λ x r q k. search rules)))
