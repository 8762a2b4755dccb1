-- The line of a refused text. Assumes nothing.
use Rattle.std.specs.Prelude.{◌≡◌, ℕ, List, [], ◌∷◌, Some, codes, decimal}
use Rattle.sheet.specs.Refusals.{number_of}
use Rattle.sheet_lines.specs.Faults.{refusal_number, refusal_layer, layer_word}
use Rattle.sheet_lines.specs.declared.fault.Fault.{Fault}
use Rattle.listing_text.specs.Rows.{line_of}

-- the line of a fault with this number: number, layer, line and field
abbrev pub refusal_line : ℕ → Fault → List ℕ
refusal_line number f = line_of (codes "refused") (decimal number ∷ (layer_word (refusal_layer f.refusal) ∷ (decimal f.line ∷ (decimal f.field ∷ []))))

-- out is the line of the fault f, which has a number
abbrev pub RefusalLine : Fault → List ℕ → Type 0
RefusalLine f out = (number : ℕ) × (number_of (refusal_number f.refusal) ≡ Some number) × (out ≡ refusal_line number f)
