use Rattle.std.proofs.Common.{string_bytes, refl}
use Rattle.listing_text.proofs.Paths.{paths_fit, all_listed}
use Rattle.listing_text.proofs.reading.list_text.Goals as goal

pub list_parts-requires : goal.list_parts-requires
list_parts-requires c = let h = c.in-Ok.ensures.reads in paths_fit c.args.most _ _ h.0 c.in-Ok.found _ _ h.2 refl h.1

pub returns-in-Ok-clause-lists : goal.returns-in-Ok-clause-lists
returns-in-Ok-clause-lists c =
    let h = c.in-Ok.ensures.reads in
    all_listed c.args.most _ _ h.0 c.in-Ok.found _ _ h.2 refl h.1 string_bytes c.list_parts.result c.list_parts.ensures
