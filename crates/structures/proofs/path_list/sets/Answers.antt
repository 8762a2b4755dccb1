use Rattle.std.proofs.Common.{◌%◌, ◌^◌, rules}
use Rattle.std.proofs.lemmas.Iterator.{YieldsList-from_slice, YieldsList-from_map_by}
use Rattle.std.proofs.lemmas.Iterator.Consumers.{map_from_collect}
use Rattle.structures.proofs.path_list.sets.Goals as goal

pub returns-clause-numbers : goal.returns-clause-numbers
returns-clause-numbers c =
    map_from_collect _ c.collect.ensures.ran
    (YieldsList-from_map_by _ (λ path. path.number) (λ n. n % 2 ^ 40) (YieldsList-from_slice c.args.numbers.now cc) c.map.ensures.closure (λ x r q k. search rules))
