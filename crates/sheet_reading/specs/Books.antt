-- What a reader's book holds, and what it does with a line. Assumes nothing.
use Rattle.std.specs.Prelude.{◌≡◌, ℕ, ◌⊎◌, List, [], ◌∷◌, Some, None, Ok, Err, vec_items, Option, Result}
use Rattle.sheet.specs.Parts.{drafted}
use Rattle.sheet.specs.declared.part_number.PartNumber.{PartNumber}
use Rattle.sheet.specs.declared.refusal.AddError.{AddError}
use Rattle.sheet.specs.declared.refusal.AddError.TheVariants.{GradeTooHigh, PriceTooHigh, GradeFalls, SheetFull, OutOfMemory}
use Rattle.sheet_lines.specs.Faults.{told_by}
use Rattle.sheet_lines.specs.Tokens.{kind_in, fields_in}
use Rattle.sheet_lines.specs.declared.fault.Fault.{Fault}
use Rattle.sheet_lines.specs.declared.kind.Kind.{Kind}
use Rattle.sheet_lines.specs.declared.token.Token.{Token}
use Rattle.sheet_reading.specs.Numbers.{Written, NumberFault}
use Rattle.sheet_reading.specs.Rules.{Content, rules, broken, Adds}
use Rattle.sheet_reading.specs.declared.book.Book.{Book}

-- the number of a part, 0 for none
abbrev pub number_or_0 : Option PartNumber → ℕ
number_or_0 None = 0
number_or_0 (Some p) = p.number

abbrev pub content_of : Book → Content
content_of b = record { parts = drafted b.draft; paths = vec_items b.paths; at = b.stage; feed = number_or_0 b.feed }

-- the field that a part's refusal speaks of: its number where the sheet is full, else its grade or its price
abbrev pub add_field : AddError → ℕ
add_field SheetFull = 2
add_field GradeTooHigh = 3
add_field GradeFalls = 3
add_field PriceTooHigh = 4
add_field OutOfMemory = 0

-- the line was taken: all its rules are kept, and it added to the book; or the fault is that of the first rule that is not kept, or none where memory was wanting
abbrev pub Takes : ℕ → Book → Kind → List ℕ → ℕ → Result (Unit {0}) Fault → Book → Type 0
Takes most b k ns line (Ok u) b' = (broken (rules most (content_of b) k ns) ≡ []) × Adds (content_of b) k ns (content_of b')
Takes most b k ns line (Err f) b' = (told_by f ≡ broken (rules most (content_of b) k ns)) × (f.line ≡ line)

-- a line's token was taken: its fields write numbers, whose rules are kept, and they added to the book; or a field writes no number; or a rule is not kept
abbrev pub TakesLine : ℕ → Book → Token → ℕ → Result (Unit {0}) Fault → Book → Type 0
TakesLine most b t line (Ok u) b' =
    (ns : List ℕ) × Written (44 ∷ fields_in t) ns × (broken (rules most (content_of b) (kind_in t) ns) ≡ []) × Adds (content_of b) (kind_in t) ns (content_of b')
TakesLine most b t line (Err f) b' =
    NumberFault (44 ∷ fields_in t) line f
    ⊎ ((ns : List ℕ) × Written (44 ∷ fields_in t) ns × (told_by f ≡ broken (rules most (content_of b) (kind_in t) ns)) × (f.line ≡ line))
