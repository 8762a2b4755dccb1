-- A text has one fault. Assumes nothing.
use Rattle.std.proofs.Common.{◌≡◌, ℕ, suc, ◌+◌, ◌⊎◌, cond, eqb, List, [], ◌∷◌, ◌++◌, length, Err, sym, refl, ap, ◌∙◌, ap₂, subst, inl, inr, arith}
use Rattle.std.proofs.lemmas.List.{append-nil, append_assoc}
use Rattle.sheet.specs.declared.refusal.AddError.TheVariants as add
use Rattle.sheet_lines.specs.Cuts.{Free, Cut, marks}
use Rattle.sheet_lines.specs.Faults.{refusal_number, told, told_by}
use Rattle.sheet_lines.specs.Lines.{TokenAt, line_fault}
use Rattle.sheet_lines.specs.Texts.{line_text}
use Rattle.sheet_lines.specs.Tokens.{kind_in, fields_in, line_of, Parted, Begins, RightCount, ReadsToken}
use Rattle.sheet_lines.specs.Words.{word_of}
use Rattle.sheet_lines.specs.declared.fault.Fault.{Fault}
use Rattle.sheet_lines.specs.declared.fault.Refusal.{Refusal}
use Rattle.sheet_lines.specs.declared.fault.Refusal.TheVariants as refusal
use Rattle.sheet_lines.specs.declared.line_error.LineError.{LineError}
use Rattle.sheet_lines.specs.declared.line_error.LineError.TheVariants as error
use Rattle.sheet_lines.specs.declared.token.Token.{Token}
use Rattle.sheet_lines.proofs.Cutting.{marks_free, marks_cut, one_cut, word_free}
use Rattle.sheet_reading.specs.Numbers.{Written, NumberFault}
use Rattle.sheet_reading.specs.Readings.{Row, rows_text, LineFault, no_feed, no_end, no_token, no_number, no_rule, RefusedText, OfMemory, Exact}
use Rattle.sheet_reading.specs.Rules.{Content, nothing, rules, broken}
use Rattle.sheet_reading.proofs.Beginnings.{Kept, Run, run_of}
use Rattle.sheet_reading.proofs.NumberSteps.{marks_append, token_many}
use Rattle.sheet_reading.proofs.OneLine.{one_word, one_numbers, written_no_bad, one_bad_place}
use Rattle.sheet_reading.proofs.OneReading.{line_right, cut_some, one_first, adds_once, holds_once, holds_right}

-- the refusal of a number in the table
refusal_of : ℕ → Refusal
refusal_of n =
    cond (eqb n 13) refusal.TextTooLong
    (cond (eqb n 14) refusal.NoLineEnd
    (cond (eqb n 15) refusal.UnknownWord
    (cond (eqb n 16) refusal.WrongFieldCount
    (cond (eqb n 17) refusal.BadNumber
    (cond (eqb n 18) refusal.OutOfTurn
    (cond (eqb n 19) refusal.BadPart
    (cond (eqb n 20) refusal.TooManyPaths
    (cond (eqb n 2) (refusal.Draft add.GradeTooHigh)
    (cond (eqb n 3) (refusal.Draft add.PriceTooHigh)
    (cond (eqb n 4) (refusal.Draft add.GradeFalls) (refusal.Draft add.SheetFull)))))))))))

refusal_by : (r : Refusal) → (refusal_number r ≡ []) ⊎ ((n : ℕ) × (refusal_number r ≡ n ∷ []) × (r ≡ refusal_of n))
unfolding refusal_of
refusal_by refusal.TextTooLong = inr (13, refl, refl)
refusal_by refusal.NoLineEnd = inr (14, refl, refl)
refusal_by refusal.UnknownWord = inr (15, refl, refl)
refusal_by refusal.WrongFieldCount = inr (16, refl, refl)
refusal_by refusal.BadNumber = inr (17, refl, refl)
refusal_by refusal.OutOfTurn = inr (18, refl, refl)
refusal_by refusal.BadPart = inr (19, refl, refl)
refusal_by refusal.TooManyPaths = inr (20, refl, refl)
refusal_by (refusal.Draft add.GradeTooHigh) = inr (2, refl, refl)
refusal_by (refusal.Draft add.PriceTooHigh) = inr (3, refl, refl)
refusal_by (refusal.Draft add.GradeFalls) = inr (4, refl, refl)
refusal_by (refusal.Draft add.SheetFull) = inr (5, refl, refl)
refusal_by (refusal.Draft add.OutOfMemory) = inl refl
refusal_by refusal.OutOfMemory = inl refl

-- two faults are one, or memory was wanting
abbrev pub Same : Fault → Fault → Type 0
Same f g = (f ≡ g) ⊎ OfMemory f ⊎ OfMemory g

same_fault : (f g : Fault) → f.refusal ≡ g.refusal → f.line ≡ g.line → f.field ≡ g.field → f ≡ g
same_fault f g a b c =
    ap (λ r. record { refusal = r; line = f.line; field = f.field }) a ∙ ap (λ n. record { refusal = g.refusal; line = n; field = f.field }) b ∙ ap (λ n. record { refusal = g.refusal; line = g.line; field = n }) c

told_once : (f g : Fault) → told_by f ≡ told_by g → f.line ≡ g.line → Same f g
told_once f g same lines = by (refusal_by f.refusal) (refusal_by g.refusal)
  where
    by : (refusal_number f.refusal ≡ []) ⊎ ((n : ℕ) × (refusal_number f.refusal ≡ n ∷ []) × (f.refusal ≡ refusal_of n)) → (refusal_number g.refusal ≡ []) ⊎ ((n : ℕ) × (refusal_number g.refusal ≡ n ∷ []) × (g.refusal ≡ refusal_of n)) → Same f g
    by (inl none) q = inr (inl (ap (λ ns. told ns f.field) none))
    by (inr p) (inl none) = inr (inr (ap (λ ns. told ns g.field) none))
    by (inr (n, e, is)) (inr (m, d, so)) =
        let both : n ∷ (f.field ∷ []) ≡ m ∷ (g.field ∷ []) = sym (ap (λ ns. told ns f.field) e) ∙ same ∙ ap (λ ns. told ns g.field) d in
        let numbers : n ≡ m = cc in
        let fields : f.field ≡ g.field = cc in
        inl (same_fault f g (is ∙ ap refusal_of numbers ∙ sym so) lines fields)

-- a token's line is one
token_read : (t : Token) (e : LineError) → Parted t → ReadsToken (line_of t) (Err e) → ⊥
token_read t error.UnknownWord parted unknown = unknown (kind_in t) (inr (fields_in t, refl))
token_read t error.WrongFieldCount parted (j, begins, wrong) =
    let many : marks 44 (line_of t) ≡ marks 44 (44 ∷ fields_in t) = omega (arith, marks_append 44 (word_of (kind_in t)) (44 ∷ fields_in t), marks_free 44 (word_of (kind_in t)) (word_free (kind_in t))) in
    wrong (subst (λ k. RightCount k (marks 44 (line_of t))) (kinds begins) (subst (RightCount (kind_in t)) (sym many) (token_many t parted)))
  where
    kinds : Begins j (line_of t) → kind_in t ≡ j
    kinds (inl e) = (one_word (kind_in t) j (44 ∷ fields_in t) [] (e ∙ sym (append-nil (word_of j)))).0
    kinds (inr (rest, e)) = (one_word (kind_in t) j (44 ∷ fields_in t) (44 ∷ rest) e).0

one_error : (line : List ℕ) (d e : LineError) → ReadsToken line (Err d) → ReadsToken line (Err e) → d ≡ e
one_error line error.UnknownWord error.UnknownWord a b = refl
one_error line error.UnknownWord error.WrongFieldCount a (j, begins, wrong) = absurd (a j begins)
one_error line error.WrongFieldCount error.UnknownWord (j, begins, wrong) b = absurd (b j begins)
one_error line error.WrongFieldCount error.WrongFieldCount a b = refl

cut_free : (rest bytes after : List ℕ) → Free 10 rest → Cut 10 rest bytes after → ⊥
cut_free rest bytes after free cut = omega (arith, marks_free 10 rest free, ap (marks 10) cut.0, marks_cut 10 bytes after cut.1)

one_bytes : (rest bytes after bytes2 after2 : List ℕ) → Cut 10 rest bytes after → Cut 10 rest bytes2 after2 → bytes ≡ bytes2
one_bytes rest bytes after bytes2 after2 a b = (one_cut 10 bytes bytes2 after after2 a.1 b.1 (sym a.0 ∙ b.0)).0

-- two tokens of one line have one kind and the same fields
one_token : (rest after after2 : List ℕ) (t q : Token) → Cut 10 rest (line_of t) after → Cut 10 rest (line_of q) after2 → (kind_in t ≡ kind_in q) × (44 ∷ fields_in t ≡ 44 ∷ fields_in q)
one_token rest after after2 t q a b = one_word (kind_in t) (kind_in q) (44 ∷ fields_in t) (44 ∷ fields_in q) (one_bytes rest (line_of t) after (line_of q) after2 a b)

numbers_once : (xs : List ℕ) (line : ℕ) (f g : Fault) → NumberFault xs line f → NumberFault xs line g → Same f g
numbers_once xs line f g (inl memory) b = inr (inl (ap told_by memory))
numbers_once xs line f g (inr a) (inl memory) = inr (inr (ap told_by memory))
numbers_once xs line f g (inr (i, bad, is)) (inr (j, bad2, is2)) =
    inl (is ∙ ap (λ n. record { refusal = refusal.BadNumber; line = line; field = n + 2 }) (one_bad_place xs i j bad bad2) ∙ sym is2)

number_written : (xs ns : List ℕ) (line : ℕ) (f : Fault) → NumberFault xs line f → Written xs ns → OfMemory f
number_written xs ns line f (inl memory) w = ap told_by memory
number_written xs ns line f (inr (i, bad, is)) w = absurd (written_no_bad xs ns i w bad)

-- one line has one fault
module _ (most : ℕ) (c : Content) (rest : List ℕ) (line : ℕ) (f g : Fault) where
  token_token : (bytes after bytes2 after2 : List ℕ) → Cut 10 rest bytes after → Cut 10 rest bytes2 after2 → TokenAt bytes line (Err f) → TokenAt bytes2 line (Err g) → Same f g
  token_token bytes after bytes2 after2 a b (d, is, reads) (e, is2, reads2) =
      let one = one_error bytes2 d e (subst (λ v. ReadsToken v (Err d)) (one_bytes rest bytes after bytes2 after2 a b) reads) reads2 in
      inl (is ∙ ap (λ x. line_fault x line) one ∙ sym is2)

  token_other : (h : Fault) (bytes after after2 : List ℕ) (t : Token) → Cut 10 rest bytes after → Cut 10 rest (line_of t) after2 → TokenAt bytes line (Err h) → Parted t → ⊥
  token_other h bytes after after2 t a b (e, is, reads) parted = token_read t e parted (subst (λ v. ReadsToken v (Err e)) (one_bytes rest bytes after (line_of t) after2 a b) reads)

  rule_rule : (t q : Token) (after after2 ns ms : List ℕ) → Cut 10 rest (line_of t) after → Cut 10 rest (line_of q) after2 → Written (44 ∷ fields_in t) ns → Written (44 ∷ fields_in q) ms
      → told_by f ≡ broken (rules most c (kind_in t) ns) → told_by g ≡ broken (rules most c (kind_in q) ms) → f.line ≡ line → g.line ≡ line → Same f g
  rule_rule t q after after2 ns ms a b w v told_f told_g at_f at_g =
      let one = one_token rest after after2 t q a b in
      let numbers = one_numbers ns ms w.1 v.1 (sym w.0 ∙ one.1 ∙ v.0) in
      told_once f g (told_f ∙ ap₂ (λ k xs. broken (rules most c k xs)) one.0 numbers ∙ sym told_g) (at_f ∙ sym at_g)

  here_once : LineFault most c rest line f → LineFault most c rest line g → Same f g
  here_once (no_feed e here is) (no_feed e2 here2 is2) = inl (is ∙ sym is2)
  here_once (no_feed e here is) (no_end some free is2) = absurd (some e)
  here_once (no_feed e here is) (no_token bytes after cut fault) = absurd (cut_some rest bytes after e cut)
  here_once (no_feed e here is) (no_number t after cut parted fault) = absurd (cut_some rest (line_of t) after e cut)
  here_once (no_feed e here is) (no_rule t after ns cut parted w said at) = absurd (cut_some rest (line_of t) after e cut)
  here_once (no_end some free is) (no_feed e here is2) = absurd (some e)
  here_once (no_end some free is) (no_end some2 free2 is2) = inl (is ∙ sym is2)
  here_once (no_end some free is) (no_token bytes after cut fault) = absurd (cut_free rest bytes after free cut)
  here_once (no_end some free is) (no_number t after cut parted fault) = absurd (cut_free rest (line_of t) after free cut)
  here_once (no_end some free is) (no_rule t after ns cut parted w said at) = absurd (cut_free rest (line_of t) after free cut)
  here_once (no_token bytes after cut fault) (no_feed e here is) = absurd (cut_some rest bytes after e cut)
  here_once (no_token bytes after cut fault) (no_end some free is) = absurd (cut_free rest bytes after free cut)
  here_once (no_token bytes after cut fault) (no_token bytes2 after2 cut2 fault2) = token_token bytes after bytes2 after2 cut cut2 fault fault2
  here_once (no_token bytes after cut fault) (no_number t after2 cut2 parted fault2) = absurd (token_other f bytes after after2 t cut cut2 fault parted)
  here_once (no_token bytes after cut fault) (no_rule t after2 ns cut2 parted w said at) = absurd (token_other f bytes after after2 t cut cut2 fault parted)
  here_once (no_number t after cut parted fault) (no_feed e here is) = absurd (cut_some rest (line_of t) after e cut)
  here_once (no_number t after cut parted fault) (no_end some free is) = absurd (cut_free rest (line_of t) after free cut)
  here_once (no_number t after cut parted fault) (no_token bytes after2 cut2 fault2) = absurd (token_other g bytes after2 after t cut2 cut fault2 parted)
  here_once (no_number t after cut parted fault) (no_number q after2 cut2 parted2 fault2) =
      numbers_once (44 ∷ fields_in t) line f g fault (subst (λ v. NumberFault v line g) (sym (one_token rest after after2 t q cut cut2).1) fault2)
  here_once (no_number t after cut parted fault) (no_rule q after2 ns cut2 parted2 w said at) =
      inr (inl (number_written (44 ∷ fields_in t) ns line f fault (subst (λ v. Written v ns) (sym (one_token rest after after2 t q cut cut2).1) w)))
  here_once (no_rule t after ns cut parted w said at) (no_feed e here is) = absurd (cut_some rest (line_of t) after e cut)
  here_once (no_rule t after ns cut parted w said at) (no_end some free is) = absurd (cut_free rest (line_of t) after free cut)
  here_once (no_rule t after ns cut parted w said at) (no_token bytes after2 cut2 fault) = absurd (token_other g bytes after2 after t cut2 cut fault parted)
  here_once (no_rule t after ns cut parted w said at) (no_number q after2 cut2 parted2 fault) =
      inr (inr (number_written (44 ∷ fields_in q) ns line g fault (subst (λ v. Written v ns) (one_token rest after after2 t q cut cut2).1 w)))
  here_once (no_rule t after ns cut parted w said at) (no_rule q after2 ms cut2 parted2 v said2 at2) = rule_rule t q after after2 ns ms cut cut2 w v said said2 at at2

-- and a text has its first faulty line once
module _ (most : ℕ) (rest rest2 : List ℕ) (line line2 : ℕ) (f g : Fault) where
  first_once : (c : Content) (rs : List Row) (d : Content) (qs : List Row) (e : Content) (i : ℕ) → Run most c rs d → Run most c qs e → rows_text rs ++ rest ≡ rows_text qs ++ rest2
      → line ≡ i + length rs → line2 ≡ i + length qs → LineFault most d rest line f → LineFault most e rest2 line2 g → Same f g
  unfolding Run
  first_once c [] d [] e i a b same at at2 fault fault2 =
      let lines : line2 ≡ line = omega (arith, at, at2) in
      let there = subst (λ n. LineFault most e rest2 n g) lines fault2 in
      let here = subst (λ x. LineFault most x rest2 line g) (sym b ∙ a) there in
      here_once most d rest line f g fault (subst (λ v. LineFault most d v line g) (sym same) here)
  first_once c [] d (q ∷ qs) e i a (y, kept, run) same at at2 fault fault2 =
      let at_q = same ∙ append_assoc (line_text q.kind q.numbers) (rows_text qs) rest2 in
      inr (inl (line_right most c q y kept (rows_text qs ++ rest2) line f (subst (λ v. LineFault most c v line f) at_q (subst (λ x. LineFault most x rest line f) (sym a) fault))))
  first_once c (r ∷ rs) d [] e i (x, kept, run) b same at at2 fault fault2 =
      let at_r = sym same ∙ append_assoc (line_text r.kind r.numbers) (rows_text rs) rest in
      inr (inr (line_right most c r x kept (rows_text rs ++ rest) line2 g (subst (λ v. LineFault most c v line2 g) at_r (subst (λ z. LineFault most z rest2 line2 g) (sym b) fault2))))
  first_once c (r ∷ rs) d (q ∷ qs) e i (x, kept, run) (y, kept2, run2) same at at2 fault fault2 =
      let first = one_first r q (rows_text rs ++ rest) (rows_text qs ++ rest2) kept.short kept2.short (sym (append_assoc (line_text r.kind r.numbers) (rows_text rs) rest) ∙ same ∙ append_assoc (line_text q.kind q.numbers) (rows_text qs) rest2) in
      let kept3 = subst (λ z. Kept most c z y) (sym first.0) kept2 in
      let to : x ≡ y = adds_once c r.kind r.numbers x y kept.adds kept3.adds in
      first_once x rs d qs e (suc i) run (subst (λ z. Run most z qs e) (sym to) run2) first.1 (omega (arith, at)) (omega (arith, at2)) fault fault2

refused_once : (most : ℕ) (text : List ℕ) (f g : Fault) → RefusedText most text f → RefusedText most text g → Same f g
refused_once most text f g (inl (long, is)) (inl (long2, is2)) = inl (is ∙ sym is2)
refused_once most text f g (inl (long, is)) (inr b) = absurd (omega (arith, long, b.few_bytes))
refused_once most text f g (inr a) (inl (long, is)) = absurd (omega (arith, long, a.few_bytes))
refused_once most text f g (inr a) (inr b) =
    first_once most a.rest b.rest (suc (length a.rows)) (suc (length b.rows)) f g nothing a.rows a.content b.rows b.content 1 (run_of most a.rows a.content a.lines) (run_of most b.rows b.content b.lines) (sym a.bytes ∙ b.bytes) (omega arith) (omega arith) a.fault b.fault

pub exact : (most : ℕ) (text : List ℕ) → Exact most text
exact most text = record { one_content = holds_once most text; never_refused = holds_right most text; one_fault = refused_once most text }
