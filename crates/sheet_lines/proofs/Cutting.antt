-- A list cut at the first place of a mark. Assumes nothing.
use Rattle.std.proofs.Common.{◌≡◌, ℕ, zero, suc, cond, eqb, List, [], ◌∷◌, ◌++◌, sym, refl, ap, ◌∙◌, ap₂, inl, inr, Some, None, Option, MatchOption, Bor, arith, eq-eqb, ne_eqb}
use Rattle.std.proofs.lemmas.Bool.{cond-true, cond-false}
use Rattle.std.proofs.lemmas.List.Sums.{sum_by-cons, sum_by-append}
use Rattle.sheet_lines.specs.Cuts.{Free, Cut, marks}
use Rattle.sheet_lines.specs.Tokens.{Begins}
use Rattle.sheet_lines.specs.Words.{word_of}
use Rattle.sheet_lines.specs.declared.kind.Kind.{Kind}
use Rattle.sheet_lines.specs.declared.kind.Kind.TheVariants as kind

pub marks_free : (mark : ℕ) (xs : List ℕ) → Free mark xs → marks mark xs ≡ 0
marks_free mark [] free = refl
marks_free mark (x ∷ xs) free =
    let head = cond-false {A = ℕ} (eqb x mark) 1 0 (ne_eqb x mark (free 0 (omega arith))) in
    omega (arith, sum_by-cons (λ y. cond (eqb y mark) 1 0) x xs, head, marks_free mark xs (λ k h e. free (suc k) (omega (arith, h)) e))

pub free_marks : (mark : ℕ) (xs : List ℕ) → marks mark xs ≡ 0 → Free mark xs
free_marks mark [] none k h e = omega (arith, h)
free_marks mark (x ∷ xs) none zero h e =
    omega (arith, none, sum_by-cons (λ y. cond (eqb y mark) 1 0) x xs, cond-true {A = ℕ} (eqb x mark) 1 0 (eq-eqb x mark e))
free_marks mark (x ∷ xs) none (suc k) h e =
    free_marks mark xs (omega (arith, none, sum_by-cons (λ y. cond (eqb y mark) 1 0) x xs)) k (omega (arith, h)) e

pub marks_cut : (mark : ℕ) (front rest : List ℕ) → Free mark front → marks mark (front ++ mark ∷ rest) ≡ suc (marks mark rest)
marks_cut mark front rest free =
    omega (arith, sum_by-append (λ y. cond (eqb y mark) 1 0) front (mark ∷ rest), marks_free mark front free, sum_by-cons (λ y. cond (eqb y mark) 1 0) mark rest, cond-true {A = ℕ} (eqb mark mark) 1 0 (eq-eqb mark mark refl))

-- there is one cut
pub one_cut : (mark : ℕ) (f g r s : List ℕ) → Free mark f → Free mark g → f ++ mark ∷ r ≡ g ++ mark ∷ s → (f ≡ g) × (r ≡ s)
one_cut mark [] [] r s a b e = (refl, let same : r ≡ s = cc in same)
one_cut mark [] (y ∷ g) r s a b e = absurd (b 0 (omega arith) (let same : mark ≡ y = cc in sym same))
one_cut mark (x ∷ f) [] r s a b e = absurd (a 0 (omega arith) (let same : x ≡ mark = cc in same))
one_cut mark (x ∷ f) (y ∷ g) r s a b e =
    let heads : x ≡ y = cc in
    let tails : f ++ mark ∷ r ≡ g ++ mark ∷ s = cc in
    let rest = one_cut mark f g r s (λ k h. a (suc k) (omega (arith, h))) (λ k h. b (suc k) (omega (arith, h))) tails in
    (ap₂ (◌∷◌) heads rest.0, rest.1)

-- no comma stands in a word
pub word_free : (k : Kind) → Free 44 (word_of k)
word_free kind.Part = free_marks 44 (word_of kind.Part) refl
word_free kind.Path = free_marks 44 (word_of kind.Path) refl
word_free kind.Feed = free_marks 44 (word_of kind.Feed) refl

-- which lines begin with a word
begins_whole : (k : Kind) (line : List ℕ) → Free 44 line → Begins k line → line ≡ word_of k
begins_whole k line free (inl e) = e
begins_whole k line free (inr (rest, e)) = absurd (omega (arith, marks_free 44 line free, ap (marks 44) e, marks_cut 44 (word_of k) rest (word_free k)))

begins_cut : (k : Kind) (line word fields : List ℕ) → Cut 44 line word fields → Begins k line → word ≡ word_of k
begins_cut k line word fields cut (inl e) =
    absurd (omega (arith, ap (marks 44) cut.0, marks_cut 44 word fields cut.1, ap (marks 44) e, marks_free 44 (word_of k) (word_free k)))
begins_cut k line word fields cut (inr (rest, e)) = (one_cut 44 word (word_of k) fields rest cut.1 (word_free k) (sym cut.0 ∙ e)).0

pub begins_with : (k : Kind) (line word : List ℕ) (fields : Option (Bor (List ℕ))) → MatchOption fields ((word ≡ line) × Free 44 line) (λ f. Cut 44 line word f.now) → Begins k line → word ≡ word_of k
begins_with k line word None whole begins = whole.0 ∙ begins_whole k line whole.1 begins
begins_with k line word (Some f) cut begins = begins_cut k line word f.now cut begins
