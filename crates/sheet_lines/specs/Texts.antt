-- The text of a sheet with its paths and its feed. Assumes nothing.
use Rattle.std.specs.Prelude.{ℕ, zero, suc, cond, List, [], ◌∷◌, ◌++◌, length, decimal}
use Rattle.sheet.specs.Parts.{grade_of}
use Rattle.sheet.specs.declared.part.Part.{Part}
use Rattle.states.specs.Sets.{has}
use Rattle.sheet_lines.specs.Words.{word_of}
use Rattle.sheet_lines.specs.declared.kind.Kind.{Kind}
use Rattle.sheet_lines.specs.declared.kind.Kind.TheVariants as kind

-- numbers in decimal, each after a comma
abbrev pub after_commas : List ℕ → List ℕ
after_commas [] = []
after_commas (n ∷ ns) = 44 ∷ (decimal n ++ after_commas ns)

-- a line: its word, its numbers, and byte 10
abbrev pub line_text : Kind → List ℕ → List ℕ
line_text k ns = word_of k ++ (after_commas ns ++ (10 ∷ []))

-- the part lines, with numbers from i on
abbrev pub part_lines : ℕ → List Part → List ℕ
part_lines i [] = []
part_lines i (p ∷ ps) = line_text kind.Part (i ∷ (grade_of p ∷ (p.cents ∷ []))) ++ part_lines (suc i) ps

-- those of parts 1 to n that are in the set x, rising, and then these
unfoldable pub members : ℕ → ℕ → List ℕ → List ℕ
members zero x ns = ns
members (suc n) x ns = members n x (cond (has (suc n) x) (suc n ∷ ns) ns)

-- the path lines on a sheet of n parts
abbrev pub path_lines : ℕ → List ℕ → List ℕ
path_lines n [] = []
path_lines n (x ∷ xs) = line_text kind.Path (members n x []) ++ path_lines n xs

-- the text: part lines, path lines, and one feed line
abbrev pub sheet_text : List Part → List ℕ → ℕ → List ℕ
sheet_text parts paths feed = part_lines 1 parts ++ (path_lines (length parts) paths ++ line_text kind.Feed (feed ∷ []))
