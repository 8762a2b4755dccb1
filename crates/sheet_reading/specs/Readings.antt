-- What reading a text answers: what it holds, or its first faulty line. Assumes nothing.
use Rattle.std.specs.Prelude.{◌≡◌, ℕ, suc, ◌<◌, ◌≤◌, ◌⊎◌, List, [], ◌∷◌, ◌++◌, length, min, drop, Ok, Err, Result, ◌≢◌}
use Rattle.sheet.specs.declared.part.Part.{Part}
use Rattle.sheet_lines.specs.Cuts.{Free, Cut}
use Rattle.sheet_lines.specs.Faults.{told_by}
use Rattle.sheet_lines.specs.Lines.{TokenAt}
use Rattle.sheet_lines.specs.Texts.{line_text}
use Rattle.sheet_lines.specs.Tokens.{kind_in, fields_in, line_of, Parted, RightCount}
use Rattle.sheet_lines.specs.declared.fault.Fault.{Fault}
use Rattle.sheet_lines.specs.declared.fault.Refusal.TheVariants as refusal
use Rattle.sheet_lines.specs.declared.kind.Kind.{Kind}
use Rattle.sheet_lines.specs.declared.token.Token.{Token}
use Rattle.sheet_reading.specs.Numbers.{Short, Written, NumberFault}
use Rattle.sheet_reading.specs.Rules.{Content, nothing, rules, broken, Adds}
use Rattle.sheet_reading.specs.declared.found.Found.{Found}
use Rattle.sheet_reading.specs.declared.stage.Stage.TheVariants as stage

-- a line: its kind and its numbers
pub record Row : Type 0 where
  pub kind : Kind
  pub numbers : List ℕ

-- the text of lines
abbrev pub rows_text : List Row → List ℕ
rows_text [] = []
rows_text (r ∷ rs) = line_text r.kind r.numbers ++ rows_text rs

-- these lines are a well-formed beginning, and hold c: each has the right number of numbers, of at most eight digits, and keeps its rules after those before it
pub data Beginning (most : ℕ) : List Row → Content → Type 0 where
  none : Beginning most [] nothing
  more : {c c' : Content} (rows : List Row) (r : Row) → Beginning most rows c → RightCount r.kind (length r.numbers) → Short r.numbers
      → broken (rules most c r.kind r.numbers) ≡ [] → Adds c r.kind r.numbers c' → Beginning most (rows ++ r ∷ []) c'

-- what is wrong with the next line, whose number this is, where c was read before it and rest is what is left
pub data LineFault (most : ℕ) (c : Content) (rest : List ℕ) (line : ℕ) (f : Fault) : Type 0 where
  -- the text ends, and no feed line was read
  no_feed : rest ≡ [] → (c.at ≢ stage.Done) → f ≡ record { refusal = refusal.OutOfTurn; line = line; field = 1 } → LineFault most c rest line f
  -- the line has no end
  no_end : (rest ≢ []) → Free 10 rest → f ≡ record { refusal = refusal.NoLineEnd; line = line; field = 0 } → LineFault most c rest line f
  -- its word is unknown, or the number of its fields wrong
  no_token : (bytes after : List ℕ) → Cut 10 rest bytes after → TokenAt bytes line (Err f) → LineFault most c rest line f
  -- a field writes no number, or memory was wanting
  no_number : (t : Token) (after : List ℕ) → Cut 10 rest (line_of t) after → Parted t → NumberFault (44 ∷ fields_in t) line f → LineFault most c rest line f
  -- a rule is not kept: the first of them decides; or memory was wanting
  no_rule : (t : Token) (after ns : List ℕ) → Cut 10 rest (line_of t) after → Parted t → Written (44 ∷ fields_in t) ns
      → told_by f ≡ broken (rules most c (kind_in t) ns) → f.line ≡ line → LineFault most c rest line f

-- the text holds c: all its lines are well-formed, and the feed line ends it
pub record Holds (most : ℕ) (text : List ℕ) (c : Content) : Type 0 where
  pub few_bytes : length text ≤ 65536
  pub rows : List Row
  pub lines : Beginning most rows c
  pub bytes : text ≡ rows_text rows
  pub done : c.at ≡ stage.Done

-- the text is refused at its first faulty line: those before it are a well-formed beginning
pub record FirstFaulty (most : ℕ) (text : List ℕ) (f : Fault) : Type 0 where
  pub few_bytes : length text ≤ 65536
  pub rows : List Row
  pub content : Content
  pub rest : List ℕ
  pub lines : Beginning most rows content
  pub bytes : text ≡ rows_text rows ++ rest
  pub fault : LineFault most content rest (suc (length rows)) f

-- the text is refused
abbrev pub RefusedText : ℕ → List ℕ → Fault → Type 0
RefusedText most text f =
    ((65536 < length text) × (f ≡ record { refusal = refusal.TextTooLong; line = 0; field = 0 }))
    ⊎ FirstFaulty most text f

-- so many paths a text may have: 256, or as many as the caller's list has entries
abbrev pub most_paths : List ℕ → ℕ
most_paths list = min (length list) 256

-- what was answered and left is the content c: its parts are the draft's, its paths the first entries of the list, of which the others are as they were
pub record Gives (c : Content) (list : List ℕ) (found : Found) (parts' : List Part) (list' : List ℕ) : Type 0 where
  pub parts : parts' ≡ c.parts
  pub paths : list' ≡ c.paths ++ drop (length c.paths) list
  pub path_count : found.path_count ≡ length c.paths
  pub feed : found.feed.number ≡ c.feed

-- what reading a text answers, and leaves in the draft and in the caller's list: what the text holds; or its fault, and both as they were
abbrev pub Reads : List ℕ → List Part → List ℕ → Result Found Fault → List Part → List ℕ → Type 0
Reads text parts list (Ok found) parts' list' = (c : Content) × Holds (most_paths list) text c × Gives c list found parts' list'
Reads text parts list (Err f) parts' list' = RefusedText (most_paths list) text f × (parts' ≡ parts) × (list' ≡ list)

-- the fault has no number: memory was wanting
abbrev pub OfMemory : Fault → Type 0
OfMemory f = told_by f ≡ []

-- what is said of a text is one thing: it holds nothing else, is not refused but for want of memory if it holds something, and has no other fault
pub record Exact (most : ℕ) (text : List ℕ) : Type 0 where
  pub one_content : (c d : Content) → Holds most text c → Holds most text d → c ≡ d
  pub never_refused : (c : Content) (f : Fault) → Holds most text c → RefusedText most text f → OfMemory f
  pub one_fault : (f g : Fault) → RefusedText most text f → RefusedText most text g → (f ≡ g) ⊎ OfMemory f ⊎ OfMemory g
