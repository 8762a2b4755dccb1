-- Each refusal's number in the table of refusals, then its values. Assumes nothing.
use Rattle.std.specs.Prelude.{ℕ, List, [], ◌∷◌}
use Rattle.sheet_writing.specs.declared.write_error.WriteError.{WriteError}
use Rattle.sheet_writing.specs.declared.write_error.WriteError.TheVariants.{NotOnSheet, BufferTooShort}

abbrev pub write_refusal : WriteError → List ℕ
write_refusal NotOnSheet = 21 ∷ []
write_refusal (BufferTooShort needed) = 22 ∷ (needed ∷ [])
