-- A text read line by line. Assumes nothing.
use Rattle.std.proofs.Common.{◌≡◌, ℕ, suc, ◌+◌, ◌≤◌, List, [], ◌∷◌, ◌++◌, length, Ok, Err, sym, ap, ◌∙◌, subst, inl, inr, arith}
use Rattle.std.proofs.lemmas.List.{append-nil, append_assoc, length_push}
use Rattle.sheet_lines.specs.Cuts.{Cut}
use Rattle.sheet_lines.specs.Lines.{rest_of, NoLine}
use Rattle.sheet_lines.specs.Texts.{after_commas, line_text}
use Rattle.sheet_lines.specs.Tokens.{kind_in, fields_in, line_of, Parted}
use Rattle.sheet_lines.specs.Words.{word_of}
use Rattle.sheet_lines.specs.declared.fault.Fault.{Fault}
use Rattle.sheet_lines.specs.declared.line_reader.LineReader.{LineReader}
use Rattle.sheet_lines.specs.declared.token.Token.{Token}
use Rattle.sheet_reading.specs.Books.{content_of, TakesLine}
use Rattle.sheet_reading.specs.Numbers.{Written}
use Rattle.sheet_reading.specs.Readings.{Row, rows_text, Beginning, none, more, LineFault, no_end, no_token, no_number, no_rule, Holds, FirstFaulty}
use Rattle.sheet_reading.specs.Rules.{Content, nothing}
use Rattle.sheet_reading.specs.declared.book.Book.{Book}
use Rattle.sheet_reading.specs.declared.stage.Stage.TheVariants as stage
use Rattle.sheet_reading.proofs.NumberSteps.{numbers_many}

pub rows_push : (rows : List Row) (r : Row) → rows_text (rows ++ r ∷ []) ≡ rows_text rows ++ line_text r.kind r.numbers
rows_push [] r = append-nil (line_text r.kind r.numbers)
rows_push (q ∷ qs) r = ap (λ v. line_text q.kind q.numbers ++ v) (rows_push qs r) ∙ sym (append_assoc (line_text q.kind q.numbers) (rows_text qs) (line_text r.kind r.numbers))

-- a token's line, whose fields write numbers
row_line : (t : Token) (ns rest : List ℕ) → Written (44 ∷ fields_in t) ns → line_of t ++ 10 ∷ rest ≡ line_text (kind_in t) ns ++ rest
row_line t ns rest w =
    let word = word_of (kind_in t) in
    ap (λ v. (word ++ v) ++ 10 ∷ rest) w.0 ∙ append_assoc word (after_commas ns) (10 ∷ rest) ∙ ap (λ v. word ++ v) (sym (append_assoc (after_commas ns) (10 ∷ []) rest)) ∙ sym (append_assoc word (after_commas ns ++ (10 ∷ [])) rest)

-- so many lines of a text were read and hold c, and this is left
pub record SoFar (most : ℕ) (text : List ℕ) (c : Content) (rest : List ℕ) (lines : ℕ) : Type 0 where
  pub rows : List Row
  pub beginning : Beginning most rows c
  pub bytes : text ≡ rows_text rows ++ rest
  pub many : length rows ≡ lines

pub at_start : (most : ℕ) (text : List ℕ) (c : Content) (rest : List ℕ) (lines : ℕ) → c ≡ nothing → rest ≡ text → lines ≡ 0 → SoFar most text c rest lines
at_start most text c rest lines e r l = record { rows = []; beginning = subst (Beginning most []) (sym e) none; bytes = sym r; many = sym l }

module _ (most : ℕ) (text : List ℕ) (b : Book) (rest : List ℕ) (lines : ℕ) (so : SoFar most text (content_of b) rest lines) (t : Token) (after : List ℕ) (parted : Parted t) (cut : Cut 10 rest (line_of t) after) where
  -- one line more
  pub one_line : (line : ℕ) (b' : Book) (lines' : ℕ) → TakesLine most b t line (Ok tt) b' → lines' ≡ lines + 1 → SoFar most text (content_of b') after lines'
  one_line line b' lines' (ns, w, kept, adds) e =
      let r : Row = record { kind = kind_in t; numbers = ns } in
      record {
        rows = so.rows ++ r ∷ [];
        beginning = more so.rows r so.beginning (numbers_many t ns parted w) w.1 kept adds;
        bytes = so.bytes ∙ ap (λ v. rows_text so.rows ++ v) (cut.0 ∙ row_line t ns after w) ∙ sym (append_assoc (rows_text so.rows) (line_text (kind_in t) ns) after) ∙ ap (λ v. v ++ after) (sym (rows_push so.rows r));
        many = length_push so.rows r ∙ ap (λ n. n + 1) so.many ∙ sym e;
      }

  -- or a faulty one
  pub line_faulty : (line : ℕ) (f : Fault) (b' : Book) → TakesLine most b t line (Err f) b' → LineFault most (content_of b) rest line f
  line_faulty line f b' (inl number) = no_number t after cut parted number
  line_faulty line f b' (inr (ns, w, told, at)) = no_rule t after ns cut parted w told at

-- or one that has no end, or is no token
pub no_line : (most : ℕ) (c : Content) (r : LineReader) (f : Fault) → NoLine r f → LineFault most c (rest_of r) (r.lines + 1) f
no_line most c r f (inl (some, free, is)) = no_end some free is
no_line most c r f (inr (bytes, after, cut, fault)) = no_token bytes after cut fault

-- the fault of the line that comes after those read
pub faulty_at : (most : ℕ) (text : List ℕ) (c : Content) (rest : List ℕ) (lines line : ℕ) (f : Fault) → length text ≤ 65536 → SoFar most text c rest lines → line ≡ lines + 1 → LineFault most c rest line f → FirstFaulty most text f
faulty_at most text c rest lines line f few so e fault = record {
  few_bytes = few;
  rows = so.rows;
  content = c;
  rest = rest;
  lines = so.beginning;
  bytes = so.bytes;
  fault = let same : line ≡ suc (length so.rows) = omega (arith, e, so.many) in subst (λ n. LineFault most c rest n f) same fault;
}

pub all_lines : (most : ℕ) (text : List ℕ) (c : Content) (rest : List ℕ) (lines : ℕ) → length text ≤ 65536 → SoFar most text c rest lines → rest ≡ [] → c.at ≡ stage.Done → Holds most text c
all_lines most text c rest lines few so e done = record {
  few_bytes = few;
  rows = so.rows;
  lines = so.beginning;
  bytes = so.bytes ∙ ap (λ v. rows_text so.rows ++ v) e ∙ append-nil (rows_text so.rows);
  done = done;
}
