-- The tokens of lines: a line is its word and its fields, with commas between them. Assumes nothing.
use Rattle.std.specs.Prelude.{◌≡◌, ℕ, suc, ◌<◌, ◌≤◌, ◌⊎◌, List, ◌∷◌, ◌++◌, Some, None, Ok, Err, Option, Result}
use Rattle.sheet_lines.specs.Cuts.{Free, marks}
use Rattle.sheet_lines.specs.Words.{word_of}
use Rattle.sheet_lines.specs.declared.kind.Kind.{Kind}
use Rattle.sheet_lines.specs.declared.kind.Kind.TheVariants as kind
use Rattle.sheet_lines.specs.declared.line_error.LineError.{LineError}
use Rattle.sheet_lines.specs.declared.line_error.LineError.TheVariants as fault
use Rattle.sheet_lines.specs.declared.token.Token.{Token}
use Rattle.sheet_lines.specs.declared.token.Token.TheVariants as token

-- the kind of a token
abbrev pub kind_in : Token → Kind
kind_in (token.Part number grade cents) = kind.Part
kind_in (token.Path numbers) = kind.Path
kind_in (token.Feed number) = kind.Feed

-- its fields, with commas between them
abbrev pub fields_in : Token → List ℕ
fields_in (token.Part number grade cents) = number.now ++ (44 ∷ grade.now ++ (44 ∷ cents.now))
fields_in (token.Path numbers) = numbers.now
fields_in (token.Feed number) = number.now

-- the line of a token
abbrev pub line_of : Token → List ℕ
line_of t = word_of (kind_in t) ++ 44 ∷ fields_in t

-- each field of a token is one: no comma stands in it; a path has at most 40
abbrev pub Parted : Token → Type 0
Parted (token.Part number grade cents) = Free 44 number.now × Free 44 grade.now × Free 44 cents.now
Parted (token.Path numbers) = marks 44 numbers.now < 40
Parted (token.Feed number) = Free 44 number.now

-- the line begins with the word of this kind
abbrev pub Begins : Kind → List ℕ → Type 0
Begins k line = (line ≡ word_of k) ⊎ ((rest : List ℕ) × (line ≡ word_of k ++ 44 ∷ rest))

-- so many commas part the right number of fields
abbrev pub RightCount : Kind → ℕ → Type 0
RightCount kind.Part n = n ≡ 3
RightCount kind.Path n = (1 ≤ n) × (n ≤ 40)
RightCount kind.Feed n = n ≡ 1

-- the line was read: it is the line of the token answered; or it begins with no known word; or it has a wrong number of fields
abbrev pub ReadsToken : List ℕ → Result Token LineError → Type 0
ReadsToken line (Ok t) = (line ≡ line_of t) × Parted t
ReadsToken line (Err fault.UnknownWord) = (k : Kind) → Begins k line → ⊥
ReadsToken line (Err fault.WrongFieldCount) = (k : Kind) × Begins k line × (RightCount k (marks 44 line) → ⊥)

-- fields were taken as those of a kind of line: they are the fields of the token answered, or of a wrong number
abbrev pub TakesFields : Kind → List ℕ → Option Token → Type 0
TakesFields k fields (Some t) = (kind_in t ≡ k) × (fields_in t ≡ fields) × Parted t
TakesFields k fields None = RightCount k (suc (marks 44 fields)) → ⊥
