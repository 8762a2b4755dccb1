-- The text of a line has one reading. Assumes nothing.
use Rattle.std.proofs.Common.{◌≡◌, ℕ, suc, ◌^◌, ◌<◌, ◌⊎◌, List, [], ◌∷◌, ◌++◌, length, get_or, decimal, sym, refl, ap, ◌∙◌, ap₂, inl, inr, arith, lit<}
use Rattle.std.proofs.lemmas.Fmt.{decimal_injective}
use Rattle.std.proofs.lemmas.List.{append-nil, append_assoc}
use Rattle.sheet_lines.specs.Cuts.{Free, marks}
use Rattle.sheet_lines.specs.Numbers.{Writes}
use Rattle.sheet_lines.specs.Texts.{after_commas, line_text}
use Rattle.sheet_lines.specs.Words.{word_of}
use Rattle.sheet_lines.specs.declared.kind.Kind.{Kind}
use Rattle.sheet_lines.specs.declared.kind.Kind.TheVariants as kind
use Rattle.sheet_lines.proofs.Cutting.{free_marks, one_cut}
use Rattle.sheet_reading.specs.Numbers.{Short, Written, IsBadNumber}
use Rattle.sheet_reading.proofs.NumberSteps.{marks_append, decimal_marks}

-- a line without its byte 10
abbrev pub row_bytes : Kind → List ℕ → List ℕ
row_bytes k ns = word_of k ++ after_commas ns

pub row_cut : (k : Kind) (ns rest : List ℕ) → line_text k ns ++ rest ≡ row_bytes k ns ++ 10 ∷ rest
row_cut k ns rest =
    append_assoc (word_of k) (after_commas ns ++ (10 ∷ [])) rest ∙ ap (λ v. word_of k ++ v) (append_assoc (after_commas ns) (10 ∷ []) rest) ∙ sym (append_assoc (word_of k) (after_commas ns) (10 ∷ rest))

-- byte 10 stands in no line before its end
word_ends : (k : Kind) → marks 10 (word_of k) ≡ 0
word_ends kind.Part = refl
word_ends kind.Path = refl
word_ends kind.Feed = refl

comma_ends : (ns : List ℕ) → Short ns → marks 10 (after_commas ns) ≡ 0
comma_ends [] short = refl
comma_ends (n ∷ ns) short = omega (arith, marks_append 10 (44 ∷ []) (decimal n ++ after_commas ns), marks_append 10 (decimal n) (after_commas ns), decimal_marks 10 (lit< tt) n short.0, comma_ends ns short.1)

pub row_free : (k : Kind) (ns : List ℕ) → Short ns → Free 10 (row_bytes k ns)
row_free k ns short = free_marks 10 (row_bytes k ns) (omega (arith, marks_append 10 (word_of k) (after_commas ns), word_ends k, comma_ends ns short))

-- words are of one length and differ
pub one_word : (k j : Kind) (xs ys : List ℕ) → word_of k ++ xs ≡ word_of j ++ ys → (k ≡ j) × (xs ≡ ys)
one_word kind.Part kind.Part xs ys e = (refl, cc)
one_word kind.Part kind.Path xs ys e = absurd (omega (arith, ap (λ v. get_or v 2 0) e))
one_word kind.Part kind.Feed xs ys e = absurd (omega (arith, ap (λ v. get_or v 0 0) e))
one_word kind.Path kind.Part xs ys e = absurd (omega (arith, ap (λ v. get_or v 2 0) e))
one_word kind.Path kind.Path xs ys e = (refl, cc)
one_word kind.Path kind.Feed xs ys e = absurd (omega (arith, ap (λ v. get_or v 0 0) e))
one_word kind.Feed kind.Part xs ys e = absurd (omega (arith, ap (λ v. get_or v 0 0) e))
one_word kind.Feed kind.Path xs ys e = absurd (omega (arith, ap (λ v. get_or v 0 0) e))
one_word kind.Feed kind.Feed xs ys e = (refl, cc)

-- what comes after a field: nothing, or the next comma
abbrev pub Ends : List ℕ → Type 0
Ends xs = (xs ≡ []) ⊎ (get_or xs 0 0 ≡ 44)

starts : (r xs : List ℕ) (x : ℕ) → Ends r → r ≡ x ∷ xs → x ≡ 44
starts r xs x (inl none) e = absurd cc
starts r xs x (inr comma) e = sym (ap (λ v. get_or v 0 0) e) ∙ comma

one_field : (f g r s : List ℕ) → Free 44 f → Free 44 g → Ends r → Ends s → f ++ r ≡ g ++ s → (f ≡ g) × (r ≡ s)
one_field [] [] r s a b p q e = (refl, e)
one_field [] (y ∷ g) r s a b p q e = absurd (b 0 (omega arith) (starts r (g ++ s) y p e))
one_field (x ∷ f) [] r s a b p q e = absurd (a 0 (omega arith) (starts s (f ++ r) x q (sym e)))
one_field (x ∷ f) (y ∷ g) r s a b p q e =
    let heads : x ≡ y = cc in
    let tails : f ++ r ≡ g ++ s = cc in
    let rest = one_field f g r s (λ k h. a (suc k) (omega (arith, h))) (λ k h. b (suc k) (omega (arith, h))) p q tails in
    (ap₂ (◌∷◌) heads rest.0, rest.1)

decimal_free : (n : ℕ) → n < 10 ^ 8 → Free 44 (decimal n)
decimal_free n small = free_marks 44 (decimal n) (decimal_marks 44 (lit< tt) n small)

commas_end : (ns rest : List ℕ) → Ends rest → Ends (after_commas ns ++ rest)
commas_end [] rest ends = ends
commas_end (n ∷ ns) rest ends = inr refl

-- two beginnings of numbers, each with what comes after it, of which the first has one number more
first_of : (ns rest : List ℕ) (n : ℕ) → after_commas (n ∷ ns) ++ rest ≡ 44 ∷ (decimal n ++ (after_commas ns ++ rest))
first_of ns rest n = ap (λ v. 44 ∷ v) (append_assoc (decimal n) (after_commas ns) rest)

-- the first field of both is one
peel : (f g r s : List ℕ) → Free 44 f → Free 44 g → Ends r → Ends s → ◌≡◌ {A = List ℕ} (44 ∷ (f ++ r)) (44 ∷ (g ++ s)) → (f ≡ g) × (r ≡ s)
peel f g r s a b p q e = let tails : f ++ r ≡ g ++ s = cc in one_field f g r s a b p q tails

peel_numbers : (n m : ℕ) (ns ms r s : List ℕ) → n < 10 ^ 8 → m < 10 ^ 8 → Ends r → Ends s → after_commas (n ∷ ns) ++ r ≡ after_commas (m ∷ ms) ++ s → (n ≡ m) × (after_commas ns ++ r ≡ after_commas ms ++ s)
peel_numbers n m ns ms r s a b p q e =
    let both = peel (decimal n) (decimal m) (after_commas ns ++ r) (after_commas ms ++ s) (decimal_free n a) (decimal_free m b) (commas_end ns r p) (commas_end ms s q) (sym (first_of ns r n) ∙ e ∙ first_of ms s m) in
    (decimal_injective n m (omega (arith, a)) (omega (arith, b)) both.0, both.1)

peel_bad : (n : ℕ) (ns r bad others : List ℕ) → n < 10 ^ 8 → Ends r → Free 44 bad → Ends others → ((k : ℕ) → Writes bad k → ⊥) → after_commas (n ∷ ns) ++ r ≡ 44 ∷ (bad ++ others) → ⊥
peel_bad n ns r bad others a p free ends none e =
    let both = peel (decimal n) bad (after_commas ns ++ r) others (decimal_free n a) free (commas_end ns r p) ends (sym (first_of ns r n) ∙ e) in
    none n (sym both.0, a)

-- numbers after commas are known by their bytes
pub one_numbers : (ns ms : List ℕ) → Short ns → Short ms → after_commas ns ≡ after_commas ms → ns ≡ ms
one_numbers [] [] a b e = refl
one_numbers [] (m ∷ ms) a b e = absurd cc
one_numbers (n ∷ ns) [] a b e = absurd cc
one_numbers (n ∷ ns) (m ∷ ms) a b e =
    let both = peel_numbers n m ns ms [] [] a.0 b.0 (inl refl) (inl refl) (append-nil (after_commas (n ∷ ns)) ∙ e ∙ sym (append-nil (after_commas (m ∷ ms)))) in
    ap₂ (◌∷◌) both.0 (one_numbers ns ms a.1 b.1 (sym (append-nil (after_commas ns)) ∙ both.1 ∙ append-nil (after_commas ms)))

-- and have no field that is no number
no_bad : (ns ps bad others : List ℕ) → Short ns → Short ps → Free 44 bad → Ends others → ((k : ℕ) → Writes bad k → ⊥) → after_commas ns ≡ after_commas ps ++ (44 ∷ (bad ++ others)) → ⊥
no_bad [] [] bad others a b free ends none e = absurd cc
no_bad [] (p ∷ ps) bad others a b free ends none e = absurd cc
no_bad (n ∷ ns) [] bad others a b free ends none e = peel_bad n ns [] bad others a.0 (inl refl) free ends none (append-nil (after_commas (n ∷ ns)) ∙ e)
no_bad (n ∷ ns) (p ∷ ps) bad others a b free ends none e =
    let both = peel_numbers n p ns ps [] (44 ∷ (bad ++ others)) a.0 b.0 (inl refl) (inr refl) (append-nil (after_commas (n ∷ ns)) ∙ e) in
    no_bad ns ps bad others a.1 b.1 free ends none (sym (append-nil (after_commas ns)) ∙ both.1)

pub written_no_bad : (xs ns : List ℕ) (i : ℕ) → Written xs ns → IsBadNumber xs i → ⊥
written_no_bad xs ns i w b = no_bad ns b.numbers b.bad b.others w.1 b.short b.one_field.0 b.one_field.1 b.no_number (sym w.0 ∙ b.bytes)

-- the first field that is no number is one
one_place : (ns ps bad others off rest : List ℕ) → Short ns → Short ps → Free 44 bad → Ends others → ((k : ℕ) → Writes bad k → ⊥) → Free 44 off → Ends rest → ((k : ℕ) → Writes off k → ⊥)
    → after_commas ns ++ (44 ∷ (bad ++ others)) ≡ after_commas ps ++ (44 ∷ (off ++ rest)) → length ns ≡ length ps
one_place [] [] bad others off rest a b free ends none free2 ends2 none2 e = refl
one_place [] (p ∷ ps) bad others off rest a b free ends none free2 ends2 none2 e = absurd (peel_bad p ps (44 ∷ (off ++ rest)) bad others b.0 (inr refl) free ends none (sym e))
one_place (n ∷ ns) [] bad others off rest a b free ends none free2 ends2 none2 e = absurd (peel_bad n ns (44 ∷ (bad ++ others)) off rest a.0 (inr refl) free2 ends2 none2 e)
one_place (n ∷ ns) (p ∷ ps) bad others off rest a b free ends none free2 ends2 none2 e =
    let both = peel_numbers n p ns ps (44 ∷ (bad ++ others)) (44 ∷ (off ++ rest)) a.0 b.0 (inr refl) (inr refl) e in
    ap suc (one_place ns ps bad others off rest a.1 b.1 free ends none free2 ends2 none2 both.1)

pub one_bad_place : (xs : List ℕ) (i j : ℕ) → IsBadNumber xs i → IsBadNumber xs j → i ≡ j
one_bad_place xs i j a b =
    sym a.many ∙ one_place a.numbers b.numbers a.bad a.others b.bad b.others a.short b.short a.one_field.0 a.one_field.1 a.no_number b.one_field.0 b.one_field.1 b.no_number (sym a.bytes ∙ b.bytes) ∙ b.many

-- a line, and what comes after it, are known by their bytes
pub one_row : (k j : Kind) (ns ms rest more : List ℕ) → Short ns → Short ms → line_text k ns ++ rest ≡ line_text j ms ++ more → (k ≡ j) × (ns ≡ ms) × (rest ≡ more)
one_row k j ns ms rest more a b e =
    let cut = one_cut 10 (row_bytes k ns) (row_bytes j ms) rest more (row_free k ns a) (row_free j ms b) (sym (row_cut k ns rest) ∙ e ∙ row_cut j ms more) in
    let parts = one_word k j (after_commas ns) (after_commas ms) cut.0 in
    (parts.0, one_numbers ns ms a b parts.1, cut.1)
