-- Fields with commas between them, read one by one. Assumes nothing.
use Rattle.std.specs.Prelude.{◌≡◌, ℕ, ◌⊎◌, List, [], ◌∷◌, ◌++◌, slice_index}
use Rattle.std.specs.Option.{option_map_or}
use Rattle.sheet_lines.specs.Cuts.{Free}
use Rattle.sheet_lines.specs.declared.field_reader.FieldReader.{FieldReader}

-- what is left to read, each field after a comma
abbrev pub left_of : FieldReader → List ℕ
left_of r = option_map_or (λ fields. 44 ∷ fields.now) r.left []

-- a field was read: it stands after a comma, and what is left is empty or begins with the next comma
abbrev pub FieldRead : FieldReader → List ℕ → FieldReader → Type 0
FieldRead r field r' =
    (left_of r ≡ 44 ∷ (field ++ left_of r')) × Free 44 field × ((left_of r' ≡ []) ⊎ (slice_index (left_of r') 0 ≡ 44))
