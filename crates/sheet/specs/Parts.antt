-- What a reader of a part, a draft or a sheet sees of it. Assumes nothing.
use Rattle.std.specs.Prelude.{ℕ, List, map, length, vec_items}
use Rattle.sheet.specs.Grades.{figure}
use Rattle.sheet.specs.declared.part.Part.{Part}
use Rattle.sheet.specs.declared.draft.Draft.{Draft}
use Rattle.sheet.specs.declared.sealed.Sheet.{Sheet}

abbrev pub grade_of : Part → ℕ
grade_of p = p.grade.number

-- a part's failure figure, in parts per million
abbrev pub figure_of : Part → ℕ
figure_of p = figure (grade_of p)

-- the parts of a draft, part 1 first
abbrev pub drafted : Draft → List Part
drafted d = vec_items d.sheet.parts

-- the parts of a sheet, part 1 first
abbrev pub parts_of : Sheet → List Part
parts_of s = vec_items s.parts

-- how many parts a sheet has
abbrev pub count_of : Sheet → ℕ
count_of s = length (parts_of s)

-- the failure figures of a sheet's parts, part 1 first
abbrev pub figures_of : Sheet → List ℕ
figures_of s = map figure_of (parts_of s)

-- the grades of a sheet's parts, part 1 first
abbrev pub grades_of : Sheet → List ℕ
grades_of s = map grade_of (parts_of s)
