-- Each refusal's number in the table of refusals, and the layer it came from. Assumes nothing.
use Rattle.std.specs.Prelude.{ℕ, List, [], ◌∷◌, codes}
use Rattle.sheet.specs.Refusals.{add_refusal}
use Rattle.sheet_lines.specs.declared.fault.Fault.{Fault}
use Rattle.sheet_lines.specs.declared.fault.Layer.{Layer}
use Rattle.sheet_lines.specs.declared.fault.Layer.TheVariants as layer
use Rattle.sheet_lines.specs.declared.fault.Refusal.{Refusal}
use Rattle.sheet_lines.specs.declared.fault.Refusal.TheVariants.{TextTooLong, NoLineEnd, UnknownWord, WrongFieldCount, BadNumber, OutOfTurn, BadPart, TooManyPaths, Draft, OutOfMemory}

abbrev pub refusal_number : Refusal → List ℕ
refusal_number TextTooLong = 13 ∷ []
refusal_number NoLineEnd = 14 ∷ []
refusal_number UnknownWord = 15 ∷ []
refusal_number WrongFieldCount = 16 ∷ []
refusal_number BadNumber = 17 ∷ []
refusal_number OutOfTurn = 18 ∷ []
refusal_number BadPart = 19 ∷ []
refusal_number TooManyPaths = 20 ∷ []
refusal_number (Draft error) = add_refusal error
refusal_number OutOfMemory = []

abbrev pub refusal_layer : Refusal → Layer
refusal_layer TextTooLong = layer.Text
refusal_layer NoLineEnd = layer.Text
refusal_layer UnknownWord = layer.Line
refusal_layer WrongFieldCount = layer.Line
refusal_layer BadNumber = layer.Line
refusal_layer OutOfTurn = layer.Line
refusal_layer BadPart = layer.Line
refusal_layer TooManyPaths = layer.Line
refusal_layer (Draft error) = layer.Draft
refusal_layer OutOfMemory = layer.Line

-- the word of a layer
abbrev pub layer_word : Layer → List ℕ
layer_word layer.Text = codes "text"
layer_word layer.Line = codes "line"
layer_word layer.Draft = codes "draft"

-- a fault's number and field, nothing for one without a number
abbrev pub told : List ℕ → ℕ → List ℕ
told [] field = []
told (number ∷ values) field = number ∷ (field ∷ [])

abbrev pub told_by : Fault → List ℕ
told_by f = told (refusal_number f.refusal) f.field
