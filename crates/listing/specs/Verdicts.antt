-- Choices by a verdict. Assumes nothing.
use Rattle.calls.specs.declared.answers.Verdict.{Verdict}
use Rattle.calls.specs.declared.answers.Verdict.TheVariants.{Up, Down}

-- one of two values
abbrev pub if_up : {X : Type 0} → Verdict → X → X → X
if_up Up a b = a
if_up Down a b = b
