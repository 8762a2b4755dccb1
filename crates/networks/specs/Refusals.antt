-- Each refusal's number in the table of refusals; nothing for what has no number there. Assumes nothing.
use Rattle.std.specs.Prelude.{ℕ, List, [], ◌∷◌}
use Rattle.networks.specs.declared.refusal.NetworkError.{NetworkError}
use Rattle.networks.specs.declared.refusal.NetworkError.TheVariants.{TooManyLinks, MastTooHigh, NotAPart, OutOfMemory}

abbrev pub network_refusal : NetworkError → List ℕ
network_refusal TooManyLinks = 8 ∷ []
network_refusal MastTooHigh = 9 ∷ []
network_refusal NotAPart = 10 ∷ []
network_refusal OutOfMemory = []
