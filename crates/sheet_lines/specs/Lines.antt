-- What a line reader reads. Assumes nothing.
use Rattle.std.specs.Prelude.{◌≡◌, ℕ, ◌+◌, ◌⊎◌, List, [], ◌∷◌, ◌++◌, length, drop, Some, None, Ok, Err, Option, Result, ◌≢◌}
use Rattle.sheet_lines.specs.Cuts.{Free, Cut}
use Rattle.sheet_lines.specs.Tokens.{line_of, Parted, ReadsToken}
use Rattle.sheet_lines.specs.declared.fault.Fault.{Fault}
use Rattle.sheet_lines.specs.declared.fault.Refusal.TheVariants as refusal
use Rattle.sheet_lines.specs.declared.line.Line.{Line}
use Rattle.sheet_lines.specs.declared.line_error.LineError.{LineError}
use Rattle.sheet_lines.specs.declared.line_error.LineError.TheVariants as error
use Rattle.sheet_lines.specs.declared.line_reader.LineReader.{LineReader}
use Rattle.sheet_lines.specs.declared.token.Token.{Token}

-- the unread rest
abbrev pub rest_of : LineReader → List ℕ
rest_of r = drop r.place r.text.now

-- the fault of the line with this number that is no token
abbrev pub line_fault : LineError → ℕ → Fault
line_fault error.UnknownWord n = record { refusal = refusal.UnknownWord; line = n; field = 1 }
line_fault error.WrongFieldCount n = record { refusal = refusal.WrongFieldCount; line = n; field = 0 }

-- the line with this number was read, or has this fault
abbrev pub TokenAt : List ℕ → ℕ → Result Token Fault → Type 0
TokenAt line n (Ok t) = (line ≡ line_of t) × Parted t
TokenAt line n (Err f) = (e : LineError) × (f ≡ line_fault e n) × ReadsToken line (Err e)

-- the next line was read: the rest was its token's line, byte 10 and what is unread now
pub record Read (r r' : LineReader) (line : Line) : Type 0 where
  pub bytes : rest_of r ≡ line_of line.token ++ 10 ∷ rest_of r'
  pub parted : Parted line.token
  -- byte 10 stands in no field
  pub one_line : Free 10 (line_of line.token)
  pub number : line.number ≡ r.lines + 1
  -- the place moved by exactly that line
  pub text : r'.text.now ≡ r.text.now
  pub place : r'.place ≡ r.place + (length (line_of line.token) + 1)
  pub lines : r'.lines ≡ line.number

-- the next line has no end, or is no token
abbrev pub NoLine : LineReader → Fault → Type 0
NoLine r f =
    ((rest_of r ≢ []) × Free 10 (rest_of r) × (f ≡ record { refusal = refusal.NoLineEnd; line = r.lines + 1; field = 0 }))
    ⊎ ((line after : List ℕ) × Cut 10 (rest_of r) line after × TokenAt line (r.lines + 1) (Err f))

-- what next-line answers and leaves
abbrev pub ReadsLine : LineReader → Result (Option Line) Fault → LineReader → Type 0
ReadsLine r (Ok None) r' = (rest_of r ≡ []) × (r' ≡ r)
ReadsLine r (Ok (Some line)) r' = Read r r' line
ReadsLine r (Err f) r' = NoLine r f × (r' ≡ r)
