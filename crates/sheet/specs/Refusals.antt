-- Each refusal's number in the table of refusals, then its values; nothing for what has no number there. Assumes nothing.
use Rattle.std.specs.Prelude.{ℕ, List, [], ◌∷◌, Some, None, Option}
use Rattle.sheet.specs.declared.refusal.PartNumberError.{PartNumberError}
use Rattle.sheet.specs.declared.refusal.PartNumberError.TheVariants.{OutOfRange}
use Rattle.sheet.specs.declared.refusal.AddError.{AddError}
use Rattle.sheet.specs.declared.refusal.AddError.TheVariants.{GradeTooHigh, PriceTooHigh, GradeFalls, SheetFull, OutOfMemory}

-- the number of a refusal
abbrev pub number_of : List ℕ → Option ℕ
number_of [] = None
number_of (number ∷ values) = Some number

abbrev pub part_number_refusal : PartNumberError → List ℕ
part_number_refusal OutOfRange = 1 ∷ []

abbrev pub add_refusal : AddError → List ℕ
add_refusal GradeTooHigh = 2 ∷ []
add_refusal PriceTooHigh = 3 ∷ []
add_refusal GradeFalls = 4 ∷ []
add_refusal SheetFull = 5 ∷ []
add_refusal OutOfMemory = []
