-- The lines of a text, piece by piece. Assumes nothing.
use Rattle.std.proofs.Common.{◌≡◌, ℕ, zero, suc, ◌+◌, ◌-◌, ◌/◌, ◌%◌, ◌^◌, ◌<◌, ◌≤◌, Bool, true, false, cond, List, [], ◌∷◌, ◌++◌, length, get_or, drop, decimal, sym, refl, ap, ◌∙◌, subst, arith, eq-eqb, ne_eqb}
use Rattle.std.proofs.lemmas.List.{append_assoc, at_drop_more}
use Rattle.sheet.specs.Parts.{grade_of}
use Rattle.sheet.specs.declared.part.Part.{Part}
use Rattle.sheet_lines.specs.Texts.{after_commas, line_text, part_lines, members, path_lines}
use Rattle.sheet_lines.specs.Words.{word_of}
use Rattle.sheet_lines.specs.declared.kind.Kind.{Kind}
use Rattle.sheet_lines.specs.declared.kind.Kind.TheVariants as kind
use Rattle.sheet_lines.proofs.Texts.{commas_push}
use Rattle.states.specs.Sets.{bit, has}
use Rattle.sheet_writing.specs.Writers.{Wrote}
use Rattle.sheet_writing.specs.declared.writer.Writer.{Writer}
use Rattle.sheet_writing.proofs.Writers.{nothing, both, same_bytes, SoFar, one_more}

-- the parts of a set, and then others
pub members_before : (n x : ℕ) (ns : List ℕ) → members n x ns ≡ members n x [] ++ ns
unfolding members
members_before zero x ns = refl
members_before (suc n) x ns = go (λ ms. members_before n x ms) (has (suc n) x)
  where
    go : ((ms : List ℕ) → members n x ms ≡ members n x [] ++ ms) → (b : Bool) → members n x (cond b (suc n ∷ ns) ns) ≡ members n x (cond b (suc n ∷ []) []) ++ ns
    go before true = before (suc n ∷ ns) ∙ sym (append_assoc (members n x []) (suc n ∷ []) ns) ∙ ap (λ v. v ++ ns) (sym (before (suc n ∷ [])))
    go before false = before ns

-- one part more
pub with_part : (n x : ℕ) → has (suc n) x ≡ true → members (suc n) x [] ≡ members n x [] ++ suc n ∷ []
unfolding members
with_part n x h = ap (λ b. members n x (cond b (suc n ∷ []) [])) h ∙ members_before n x (suc n ∷ [])

pub without_part : (n x : ℕ) → has (suc n) x ≡ false → members (suc n) x [] ≡ members n x []
unfolding members
without_part n x h = ap (λ b. members n x (cond b (suc n ∷ []) [])) h

-- the numbers of the parts of a set, up to one part more
pub next_member : (w w' w'' : Writer) (i x : ℕ) → Wrote w (after_commas (members i x [])) w' → Wrote w' (44 ∷ decimal (i + 1)) w'' → x / 2 ^ i % 2 ≡ 1 → Wrote w (after_commas (members (i + 1) x [])) w''
unfolding bit
next_member w w' w'' i x so wrote one =
    let more : i + 1 ≡ suc i = omega arith in
    let text : after_commas (members i x []) ++ (44 ∷ decimal (i + 1)) ≡ after_commas (members (i + 1) x []) =
    ap (λ k. after_commas (members i x []) ++ (44 ∷ decimal k)) more ∙ sym (commas_push (members i x []) (suc i)) ∙ ap after_commas (sym (with_part i x (eq-eqb _ _ one))) ∙ ap (λ k. after_commas (members k x [])) (sym more) in
    same_bytes w w'' _ _ text (both w w' w'' _ _ so wrote)

pub no_member : (w w' : Writer) (i x : ℕ) → Wrote w (after_commas (members i x [])) w' → (x / 2 ^ i % 2 ≡ 1 → ⊥) → Wrote w (after_commas (members (i + 1) x [])) w'
unfolding bit
no_member w w' i x so none =
    let more : i + 1 ≡ suc i = omega arith in
    same_bytes w w' _ _ (ap after_commas (sym (without_part i x (ne_eqb _ _ none))) ∙ ap (λ k. after_commas (members k x [])) (sym more)) so

pub no_members : (w : Writer) (x : ℕ) → w.place ≤ 2 ^ 64 - 1 → Wrote w (after_commas (members 0 x [])) w
unfolding members
no_members w x fits = nothing w fits

-- of those before it, the line of a part, a line's number, the line of a path
module _ (w w' w'' : Writer) (i : ℕ) where
  pub next_part : (ps : List Part) (p : Part) → i < length ps → p ≡ get_or ps i p → SoFar w (part_lines 1 ps) (part_lines (suc i) (drop i ps)) w'
      → Wrote w' (line_text kind.Part ((i + 1) ∷ (grade_of p ∷ (p.cents ∷ [])))) w'' → SoFar w (part_lines 1 ps) (part_lines (suc (i + 1)) (drop (i + 1) ps)) w''
  next_part ps p inside is so wrote =
      let next : suc i ≡ i + 1 = omega arith in
      let line : ℕ → Part → List ℕ = λ k q. line_text kind.Part (k ∷ (grade_of q ∷ (q.cents ∷ []))) in
      let others : ℕ → List ℕ = λ k. part_lines (suc k) (drop (i + 1) ps) in
      let rest : part_lines (suc i) (drop i ps) ≡ line (i + 1) p ++ others (i + 1) =
      at_drop_more (part_lines (suc i)) ps i p inside ∙ ap (λ q. line (suc i) q ++ others (suc i)) (sym is) ∙ ap (λ k. line k p ++ others k) next in
      one_more w w' w'' _ _ _ (subst (λ v. SoFar w (part_lines 1 ps) v w') rest so) wrote

  pub next_number : (ns : List ℕ) → i < length ns → SoFar w (after_commas ns) (after_commas (drop i ns)) w' → Wrote w' (44 ∷ decimal (get_or ns i 0)) w'' → SoFar w (after_commas ns) (after_commas (drop (i + 1) ns)) w''
  next_number ns inside so wrote = one_more w w' w'' _ _ _ (subst (λ v. SoFar w (after_commas ns) v w') (at_drop_more after_commas ns i 0 inside) so) wrote

  pub next_path : (n : ℕ) (xs : List ℕ) → i < length xs → SoFar w (path_lines n xs) (path_lines n (drop i xs)) w'
      → Wrote w' (line_text kind.Path (members n (get_or xs i 0) [])) w'' → SoFar w (path_lines n xs) (path_lines n (drop (i + 1) xs)) w''
  next_path n xs inside so wrote = one_more w w' w'' _ _ _ (subst (λ v. SoFar w (path_lines n xs) v w') (at_drop_more (path_lines n) xs i 0 inside) so) wrote

-- the three pieces of a line
pub line_written : (w w1 w2 w3 : Writer) (k : Kind) (ns : List ℕ) → Wrote w (word_of k) w1 → Wrote w1 (after_commas ns) w2 → Wrote w2 (10 ∷ []) w3 → Wrote w (line_text k ns) w3
line_written w w1 w2 w3 k ns word numbers end =
    same_bytes w w3 _ _ (append_assoc (word_of k) (after_commas ns) (10 ∷ [])) (both w w2 w3 _ _ (both w w1 w2 _ _ word numbers) end)
