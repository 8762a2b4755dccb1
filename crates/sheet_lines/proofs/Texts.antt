-- The text of numbers. Assumes nothing.
use Rattle.std.proofs.Common.{◌≡◌, ℕ, List, [], ◌∷◌, ◌++◌, decimal, sym, ap, ◌∙◌}
use Rattle.std.proofs.lemmas.List.{append-nil, append_assoc}
use Rattle.sheet_lines.specs.Texts.{after_commas}

-- one number more
pub commas_push : (ns : List ℕ) (n : ℕ) → after_commas (ns ++ n ∷ []) ≡ after_commas ns ++ (44 ∷ decimal n)
commas_push [] n = ap (λ xs. 44 ∷ xs) (append-nil (decimal n))
commas_push (m ∷ ms) n = ap (λ xs. 44 ∷ (decimal m ++ xs)) (commas_push ms n) ∙ ap (λ xs. 44 ∷ xs) (sym (append_assoc (decimal m) (after_commas ms) (44 ∷ decimal n)))
