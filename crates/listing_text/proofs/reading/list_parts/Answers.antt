use Rattle.std.proofs.Common.{ap, ◌∙◌, subst, string_bytes}
use Rattle.std.specs.Result.{IfOk}
use Rattle.sheet.specs.Parts.{drafted}
use Rattle.structures.specs.Paths.{paths_of}
use Rattle.listing_text.specs.Outputs.{Lists}
use Rattle.listing_text.specs.Stations.{station_with}
use Rattle.listing_text.proofs.reading.list_parts.Goals as goal

pub returns : goal.returns
returns c =
    let pile = c.new-pile.result in
    let parts = drafted c.args.draft in
    let e =
    ap (λ ps. station_with ps (paths_of pile.below) pile.part.number) c.seal.ensures
    ∙ ap (λ p. station_with parts (paths_of pile.below) p.number) c.new-pile.ensures.part
    ∙ ap (λ l. station_with parts (paths_of l) c.args.feed.number) c.new-pile.ensures.below
    ∙ ap (λ ps. station_with parts ps c.args.feed.number) c.in_ok-list.ensures in
    subst (λ w. IfOk c.list_station.result (λ out. Lists w c.args.most (string_bytes out))) e c.list_station.ensures
