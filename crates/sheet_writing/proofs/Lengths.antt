-- How long the text of a sheet can be. Assumes nothing.
use Rattle.std.proofs.Common.{◌≡◌, ℕ, zero, suc, ◌+◌, ◌*◌, ◌<◌, ◌≤◌, Bool, true, false, cond, List, [], ◌∷◌, ◌++◌, length, decimal, arith, lit<}
use Rattle.std.proofs.lemmas.Fmt.{length-decimal-le}
use Rattle.std.proofs.lemmas.List.{length-append}
use Rattle.sheet.specs.Parts.{grade_of}
use Rattle.sheet.specs.declared.part.Part.{Part}
use Rattle.sheet_lines.specs.Texts.{after_commas, line_text, part_lines, members, path_lines, sheet_text}
use Rattle.sheet_lines.specs.declared.kind.Kind.{Kind}
use Rattle.sheet_lines.specs.declared.kind.Kind.TheVariants as kind
use Rattle.states.specs.Sets.{has}

-- a number up to 99, and a price
short : (n : ℕ) → n < 100 → length (decimal n) ≤ 2
short n small = length-decimal-le 2 n (lit< tt) small (omega (arith, small))

price : (n : ℕ) → n ≤ 99999999 → length (decimal n) ≤ 8
price n low = length-decimal-le 8 n (lit< tt) (omega (arith, low)) (omega (arith, low))

commas_length : (n : ℕ) (ns : List ℕ) → length (after_commas (n ∷ ns)) ≡ 1 + (length (decimal n) + length (after_commas ns))
commas_length n ns = omega (arith, length-append (decimal n) (after_commas ns))

line_length : (k : Kind) (ns : List ℕ) → length (line_text k ns) ≡ length (after_commas ns) + 5
line_length kind.Part ns = omega (arith, length-append (after_commas ns) (10 ∷ []))
line_length kind.Path ns = omega (arith, length-append (after_commas ns) (10 ∷ []))
line_length kind.Feed ns = omega (arith, length-append (after_commas ns) (10 ∷ []))

parts_length : (i : ℕ) (ps : List Part) → i + length ps ≤ 99 → length (part_lines i ps) ≤ 20 * length ps
parts_length i [] few = omega arith
parts_length i (p ∷ ps) few =
    let number = short i (omega (arith, few)) in
    let grade = short (grade_of p) (omega (arith, p.grade.known)) in
    let cents = price p.cents p.priced in
    omega (arith, length-append (line_text kind.Part (i ∷ (grade_of p ∷ (p.cents ∷ [])))) (part_lines (suc i) ps), line_length kind.Part (i ∷ (grade_of p ∷ (p.cents ∷ []))), commas_length i (grade_of p ∷ (p.cents ∷ [])), commas_length (grade_of p) (p.cents ∷ []), commas_length p.cents [], number, grade, cents, parts_length (suc i) ps (omega (arith, few)))

members_length : (n x : ℕ) (ns : List ℕ) → n ≤ 40 → length (after_commas (members n x ns)) ≤ 3 * n + length (after_commas ns)
unfolding members
members_length zero x ns few = omega arith
members_length (suc n) x ns few = go (λ ms. members_length n x ms (omega (arith, few))) (has (suc n) x)
  where
    go : ((ms : List ℕ) → length (after_commas (members n x ms)) ≤ 3 * n + length (after_commas ms)) → (b : Bool) → length (after_commas (members n x (cond b (suc n ∷ ns) ns))) ≤ 3 * suc n + length (after_commas ns)
    go least true = omega (arith, least (suc n ∷ ns), commas_length (suc n) ns, short (suc n) (omega (arith, few)))
    go least false = omega (arith, least ns)

paths_length : (n : ℕ) (xs : List ℕ) → n ≤ 40 → length (path_lines n xs) ≤ 125 * length xs
paths_length n [] few = omega arith
paths_length n (x ∷ xs) few =
    omega (arith, length-append (line_text kind.Path (members n x [])) (path_lines n xs), line_length kind.Path (members n x []), members_length n x [] few, paths_length n xs few)

-- that of at most 40 parts and 256 paths
pub text_length : (ps : List Part) (xs : List ℕ) (feed : ℕ) → length ps ≤ 40 → length xs ≤ 256 → feed ≤ 40 → length (sheet_text ps xs feed) ≤ 32808
text_length ps xs feed few_parts few_paths low =
    omega (arith, length-append (part_lines 1 ps) (path_lines (length ps) xs ++ line_text kind.Feed (feed ∷ [])), length-append (path_lines (length ps) xs) (line_text kind.Feed (feed ∷ [])), parts_length 1 ps (omega (arith, few_parts)), paths_length (length ps) xs few_parts, line_length kind.Feed (feed ∷ []), commas_length feed [], short feed (omega (arith, low)), few_parts, few_paths)
