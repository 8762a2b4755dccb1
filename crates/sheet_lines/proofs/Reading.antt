-- The text after a line. Assumes nothing.
use Rattle.std.proofs.Common.{◌≡◌, ℕ, suc, ◌+◌, ◌≤◌, List, [], ◌∷◌, ◌++◌, length, drop, sym, refl, ap, ◌∙◌, arith}
use Rattle.std.proofs.lemmas.List.{drop-drop, length-drop, length-append}

drop_past : (xs ys : List ℕ) (y : ℕ) → drop (length xs + 1) (xs ++ y ∷ ys) ≡ ys
drop_past [] ys y = refl
drop_past (x ∷ xs) ys y = let e : suc (length xs) + 1 ≡ suc (length xs + 1) = omega arith in rw e (drop_past xs ys y)

-- the place after a line of a text, and what stands there
pub after_line : (text : List ℕ) (p : ℕ) (line rest : List ℕ) → p ≤ length text → drop p text ≡ line ++ 10 ∷ rest
    → (p + (length line + 1) ≤ length text) × (drop (p + (length line + 1)) text ≡ rest)
after_line text p line rest inside split =
    (omega (arith, ap length split, length-drop p text, length-append line (10 ∷ rest), inside), sym (drop-drop (length line + 1) p text) ∙ ap (drop (length line + 1)) split ∙ drop_past line rest 10)
