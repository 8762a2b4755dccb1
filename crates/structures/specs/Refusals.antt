-- Each refusal's number in the table of refusals, then its values; nothing for what has no number there. Assumes nothing.
use Rattle.std.specs.Prelude.{ℕ, List, [], ◌∷◌}
use Rattle.structures.specs.declared.refusal.PathListError.{PathListError}
use Rattle.structures.specs.declared.refusal.PathListError.TheVariants.{TooManyPaths, PartTooHigh, OutOfMemory}

abbrev pub path_list_refusal : PathListError → List ℕ
path_list_refusal TooManyPaths = 6 ∷ []
path_list_refusal (PartTooHigh place) = 7 ∷ (place ∷ [])
path_list_refusal OutOfMemory = []
