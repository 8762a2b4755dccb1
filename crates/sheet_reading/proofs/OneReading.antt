-- A text has one reading. Assumes nothing.
use Rattle.std.proofs.Common.{◌≡◌, ℕ, suc, ◌≤◌, List, [], ◌∷◌, ◌++◌, length, Ok, Err, Result, MatchResult, sym, refl, ap, ◌∙◌, ap₂, subst, inl, inr, arith}
use Rattle.std.proofs.Math.Bridge.{le_prop}
use Rattle.std.proofs.lemmas.List.{append-nil, append_assoc, length-append}
use Rattle.sheet.specs.Parts.{grade_of}
use Rattle.sheet.specs.declared.grade.Grade.{Grade}
use Rattle.sheet.specs.declared.part.Part.{Part}
use Rattle.sheet_lines.specs.Cuts.{Free, Cut, marks}
use Rattle.sheet_lines.specs.Faults.{told_by}
use Rattle.sheet_lines.specs.Lines.{TokenAt}
use Rattle.sheet_lines.specs.Texts.{after_commas, line_text}
use Rattle.sheet_lines.specs.Tokens.{kind_in, fields_in, line_of, Begins, RightCount, ReadsToken}
use Rattle.sheet_lines.specs.Words.{word_of}
use Rattle.sheet_lines.specs.declared.fault.Fault.{Fault}
use Rattle.sheet_lines.specs.declared.kind.Kind.{Kind}
use Rattle.sheet_lines.specs.declared.kind.Kind.TheVariants as kind
use Rattle.sheet_lines.specs.declared.line_error.LineError.{LineError}
use Rattle.sheet_lines.specs.declared.line_error.LineError.TheVariants as error
use Rattle.sheet_lines.specs.declared.token.Token.{Token}
use Rattle.sheet_lines.proofs.Cutting.{marks_free, marks_cut, one_cut, word_free}
use Rattle.sheet_reading.specs.Numbers.{Short, Written, NumberFault}
use Rattle.sheet_reading.specs.Readings.{Row, rows_text, LineFault, no_feed, no_end, no_token, no_number, no_rule, Holds, RefusedText, most_paths, OfMemory, Gives, Reads}
use Rattle.sheet_reading.specs.Rules.{Content, nothing, rules, broken, Adds}
use Rattle.sheet_reading.specs.declared.found.Found.{Found}
use Rattle.sheet_reading.specs.declared.stage.Stage.TheVariants as stage
use Rattle.sheet_reading.proofs.Beginnings.{Kept, Run, run_of}
use Rattle.sheet_reading.proofs.NumberSteps.{marks_append, written_many}
use Rattle.sheet_reading.proofs.OneLine.{row_bytes, row_cut, row_free, one_word, one_numbers, written_no_bad, one_row}

-- a part is known by its grade and its price
one_grade : (g h : Grade) → g.number ≡ h.number → g ≡ h
one_grade g h e =
    subst (λ n. (known : n ≤ 39) → g ≡ record { number = n; known = known }) e (λ known. ap (λ k. record { number = g.number; known = k }) (le_prop g.known known)) h.known

one_part : (p q : Part) → grade_of p ≡ grade_of q → p.cents ≡ q.cents → p ≡ q
one_part p q grades cents =
    subst (λ n. (priced : n ≤ 99999999) → p ≡ record { grade = q.grade; cents = n; priced = priced }) cents
    (λ priced. let same : ◌≡◌ {A = Part} p (record { grade = q.grade; cents = p.cents; priced = p.priced }) = ap (λ g. record { grade = g; cents = p.cents; priced = p.priced }) (one_grade p.grade q.grade grades) in
    same ∙ ap (λ k. record { grade = q.grade; cents = p.cents; priced = k }) (le_prop p.priced priced)) q.priced

-- what a line adds is one thing
pub adds_once : (c : Content) (k : Kind) (ns : List ℕ) (d e : Content) → Adds c k ns d → Adds c k ns e → d ≡ e
adds_once c kind.Part ns d e (p, pg, pc, pd) (q, qg, qc, qe) =
    let same : p ≡ q = one_part p q (pg ∙ sym qg) (pc ∙ sym qc) in
    pd ∙ ap (λ x. record { parts = c.parts ++ x ∷ []; paths = c.paths; at = stage.Parts; feed = c.feed }) same ∙ sym qe
adds_once c kind.Path ns d e a b = a ∙ sym b
adds_once c kind.Feed ns d e a b = a ∙ sym b

-- a line's text is not empty, has an end, and its word and fields
pub row_some : (k : Kind) (ns more : List ℕ) → line_text k ns ++ more ≡ [] → ⊥
row_some k ns more e = omega (arith, ap length (sym (row_cut k ns more) ∙ e), length-append (row_bytes k ns) (10 ∷ more))

row_end : (k : Kind) (ns more : List ℕ) → Short ns → Free 10 (line_text k ns ++ more) → ⊥
row_end k ns more short free =
    omega (arith, marks_free 10 (line_text k ns ++ more) free, ap (marks 10) (row_cut k ns more), marks_cut 10 (row_bytes k ns) more (row_free k ns short))

row_bytes_cut : (k : Kind) (ns more bytes after : List ℕ) → Short ns → Cut 10 (line_text k ns ++ more) bytes after → bytes ≡ row_bytes k ns
row_bytes_cut k ns more bytes after short cut = (one_cut 10 bytes (row_bytes k ns) after more cut.1 (row_free k ns short) (sym cut.0 ∙ row_cut k ns more)).0

row_many : (k : Kind) (ns : List ℕ) → Short ns → marks 44 (row_bytes k ns) ≡ length ns
row_many k ns short =
    omega (arith, marks_append 44 (word_of k) (after_commas ns), marks_free 44 (word_of k) (word_free k), written_many (after_commas ns) ns (refl, short))

pub begins_row : (k : Kind) (ns : List ℕ) → Begins k (row_bytes k ns)
begins_row k [] = inl (append-nil (word_of k))
begins_row k (n ∷ ns) = inr (_, refl)

-- which token's line it is
row_token : (k : Kind) (ns : List ℕ) (t : Token) → line_of t ≡ row_bytes k ns → (kind_in t ≡ k) × (44 ∷ fields_in t ≡ after_commas ns)
row_token k ns t e = one_word (kind_in t) k (44 ∷ fields_in t) (after_commas ns) e

row_begins : (k j : Kind) (ns : List ℕ) → Begins j (row_bytes k ns) → k ≡ j
row_begins k j ns (inl e) = (one_word k j (after_commas ns) [] (e ∙ sym (append-nil (word_of j)))).0
row_begins k j ns (inr (rest, e)) = (one_word k j (after_commas ns) (44 ∷ rest) e).0

row_read : (k : Kind) (ns : List ℕ) (e : LineError) → RightCount k (length ns) → Short ns → ReadsToken (row_bytes k ns) (Err e) → ⊥
row_read k ns error.UnknownWord count short none = none k (begins_row k ns)
row_read k ns error.WrongFieldCount count short (j, begins, wrong) =
    let same = row_begins k j ns begins in
    wrong (subst (λ x. RightCount x (marks 44 (row_bytes k ns))) same (subst (RightCount k) (sym (row_many k ns short)) count))

row_written : (k : Kind) (ns : List ℕ) (t : Token) → Short ns → line_of t ≡ row_bytes k ns → (kind_in t ≡ k) × Written (44 ∷ fields_in t) ns
row_written k ns t short e = let both = row_token k ns t e in (both.0, (both.1, short))

-- a line that keeps all its rules has no fault but want of memory
module _ (most : ℕ) (c : Content) (r : Row) (d : Content) (kept : Kept most c r d) (more : List ℕ) (line : ℕ) (f : Fault) where
  token_right : (bytes after : List ℕ) → Cut 10 (line_text r.kind r.numbers ++ more) bytes after → TokenAt bytes line (Err f) → ⊥
  token_right bytes after cut (e, is, reads) =
      row_read r.kind r.numbers e kept.count kept.short (subst (λ v. ReadsToken v (Err e)) (row_bytes_cut r.kind r.numbers more bytes after kept.short cut) reads)

  token_of_row : (t : Token) (after : List ℕ) → Cut 10 (line_text r.kind r.numbers ++ more) (line_of t) after → (kind_in t ≡ r.kind) × Written (44 ∷ fields_in t) r.numbers
  token_of_row t after cut = row_written r.kind r.numbers t kept.short (row_bytes_cut r.kind r.numbers more (line_of t) after kept.short cut)

  number_right : (t : Token) (after : List ℕ) → Cut 10 (line_text r.kind r.numbers ++ more) (line_of t) after → NumberFault (44 ∷ fields_in t) line f → told_by f ≡ []
  number_right t after cut (inl memory) = ap told_by memory
  number_right t after cut (inr (i, bad, is)) = absurd (written_no_bad (44 ∷ fields_in t) r.numbers i (token_of_row t after cut).1 bad)

  rule_right : (t : Token) (after ns : List ℕ) → Cut 10 (line_text r.kind r.numbers ++ more) (line_of t) after → Written (44 ∷ fields_in t) ns → told_by f ≡ broken (rules most c (kind_in t) ns) → told_by f ≡ []
  rule_right t after ns cut w told =
      let own = token_of_row t after cut in
      let same = one_numbers ns r.numbers w.1 own.1.1 (sym w.0 ∙ own.1.0) in
      told ∙ ap₂ (λ k ms. broken (rules most c k ms)) own.0 same ∙ kept.kept

  pub line_right : LineFault most c (line_text r.kind r.numbers ++ more) line f → told_by f ≡ []
  line_right (no_feed none here is) = absurd (row_some r.kind r.numbers more none)
  line_right (no_end some free is) = absurd (row_end r.kind r.numbers more kept.short free)
  line_right (no_token bytes after cut fault) = absurd (token_right bytes after cut fault)
  line_right (no_number t after cut parted fault) = number_right t after cut fault
  line_right (no_rule t after ns cut parted w told at) = rule_right t after ns cut w told

-- nothing is wrong at the end
pub cut_some : (rest bytes after : List ℕ) → rest ≡ [] → Cut 10 rest bytes after → ⊥
cut_some rest bytes after e cut = omega (arith, ap length (sym cut.0 ∙ e), length-append bytes (10 ∷ after))

end_right : (most : ℕ) (c : Content) (rest : List ℕ) (line : ℕ) (f : Fault) → rest ≡ [] → c.at ≡ stage.Done → LineFault most c rest line f → ⊥
end_right most c rest line f e done (no_feed none here is) = here done
end_right most c rest line f e done (no_end some free is) = some e
end_right most c rest line f e done (no_token bytes after cut fault) = cut_some rest bytes after e cut
end_right most c rest line f e done (no_number t after cut parted fault) = cut_some rest (line_of t) after e cut
end_right most c rest line f e done (no_rule t after ns cut parted w told at) = cut_some rest (line_of t) after e cut

-- two texts of lines that are one begin with one line
pub one_first : (r q : Row) (rest more : List ℕ) → Short r.numbers → Short q.numbers → line_text r.kind r.numbers ++ rest ≡ line_text q.kind q.numbers ++ more → (r ≡ q) × (rest ≡ more)
one_first r q rest more a b e =
    let both = one_row r.kind q.kind r.numbers q.numbers rest more a b e in
    (ap₂ (λ k ns. record { kind = k; numbers = ns }) both.0 both.1, both.2)

-- so lines that hold something hold one thing
runs_once : (most : ℕ) (c : Content) (rs : List Row) (d : Content) (qs : List Row) (e : Content) → Run most c rs d → Run most c qs e → rows_text rs ≡ rows_text qs → d ≡ e
unfolding Run
runs_once most c [] d [] e a b same = sym a ∙ b
runs_once most c [] d (q ∷ qs) e a b same = absurd (row_some q.kind q.numbers (rows_text qs) (sym same))
runs_once most c (r ∷ rs) d [] e a b same = absurd (row_some r.kind r.numbers (rows_text rs) same)
runs_once most c (r ∷ rs) d (q ∷ qs) e (x, kept, run) (y, kept2, run2) same =
    let first = one_first r q (rows_text rs) (rows_text qs) kept.short kept2.short same in
    let kept3 = subst (λ z. Kept most c z y) (sym first.0) kept2 in
    let to : x ≡ y = adds_once c r.kind r.numbers x y kept.adds kept3.adds in
    runs_once most x rs d qs e run (subst (λ z. Run most z qs e) (sym to) run2) first.1

-- and are not refused, but for want of memory
run_right : (most : ℕ) (c : Content) (rs : List Row) (d : Content) (qs : List Row) (e : Content) (rest : List ℕ) (line : ℕ) (f : Fault) → Run most c rs d → d.at ≡ stage.Done → Run most c qs e → rows_text rs ≡ rows_text qs ++ rest
    → LineFault most e rest line f → told_by f ≡ []
unfolding Run
run_right most c [] d [] e rest line f a done b same fault = absurd (end_right most e rest line f (sym same) (ap (λ x. x.at) (sym b ∙ a) ∙ done) fault)
run_right most c [] d (q ∷ qs) e rest line f a done b same fault = absurd (row_some q.kind q.numbers (rows_text qs ++ rest) (sym (append_assoc (line_text q.kind q.numbers) (rows_text qs) rest) ∙ sym same))
run_right most c (r ∷ rs) d [] e rest line f (x, kept, run) done b same fault =
    line_right most c r x kept (rows_text rs) line f (subst (λ v. LineFault most c v line f) (sym same) (subst (λ z. LineFault most z rest line f) (sym b) fault))
run_right most c (r ∷ rs) d (q ∷ qs) e rest line f (x, kept, run) done (y, kept2, run2) same fault =
    let first = one_first r q (rows_text rs) (rows_text qs ++ rest) kept.short kept2.short (same ∙ append_assoc (line_text q.kind q.numbers) (rows_text qs) rest) in
    let kept3 = subst (λ z. Kept most c z y) (sym first.0) kept2 in
    let to : x ≡ y = adds_once c r.kind r.numbers x y kept.adds kept3.adds in
    run_right most x rs d qs e rest line f run done (subst (λ z. Run most z qs e) (sym to) run2) first.1 fault

pub holds_once : (most : ℕ) (text : List ℕ) (c d : Content) → Holds most text c → Holds most text d → c ≡ d
holds_once most text c d a b = runs_once most nothing a.rows c b.rows d (run_of most a.rows c a.lines) (run_of most b.rows d b.lines) (sym a.bytes ∙ b.bytes)

pub holds_right : (most : ℕ) (text : List ℕ) (c : Content) (f : Fault) → Holds most text c → RefusedText most text f → told_by f ≡ []
holds_right most text c f a (inl (long, is)) = absurd (omega (arith, long, a.few_bytes))
holds_right most text c f a (inr b) =
    run_right most nothing a.rows c b.rows b.content b.rest (suc (length b.rows)) f (run_of most a.rows c a.lines) a.done (run_of most b.rows b.content b.lines) (sym a.bytes ∙ b.bytes) b.fault

-- so what was read is what the text holds
pub reads_accepts : (text : List ℕ) (parts : List Part) (list : List ℕ) (r : Result Found Fault) (parts' : List Part) (list' : List ℕ) → Reads text parts list r parts' list'
    → (c : Content) → Holds (most_paths list) text c → MatchResult r (λ found. Gives c list found parts' list') OfMemory
reads_accepts text parts list (Ok found) parts' list' (d, holds, gives) c own = subst (λ x. Gives x list found parts' list') (holds_once (most_paths list) text d c holds own) gives
reads_accepts text parts list (Err f) parts' list' (refused, same, unchanged) c own = holds_right (most_paths list) text c f own refused
