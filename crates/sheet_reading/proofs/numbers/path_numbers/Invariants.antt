use Rattle.std.proofs.Common.{◌∷◌, vec_items}
use Rattle.sheet_lines.specs.Fields.{left_of}
use Rattle.sheet_reading.proofs.NumberSteps.{Progress}
use Rattle.sheet_reading.proofs.numbers.path_numbers.Given as goal

abbrev pub invariant-loop-field : goal.invariant-loop-field
invariant-loop-field l =
    (goal.iterator-loop-field).can_next l.field-iterator
    × (goal.iterator-loop-field).is_finite l.field-iterator
    × Progress (44 ∷ l.fields) (vec_items l.numbers) (left_of l.field-iterator)
