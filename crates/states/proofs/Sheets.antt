-- The number of a sheet's parts. Assumes nothing.
use Rattle.std.proofs.Common.{◌≡◌, ◌≤◌, length, arith}
use Rattle.std.proofs.lemmas.List.{length-map}
use Rattle.sheet.specs.Parts.{figures_of, figure_of, parts_of, count_of}
use Rattle.sheet.specs.declared.sealed.Sheet.{Sheet}

pub few_parts : (s : Sheet) → count_of s ≤ 40
few_parts s = omega (arith, s.few, s.parts.ok.0)

pub count_is : (s : Sheet) → length (figures_of s) ≡ count_of s
count_is s = length-map (parts_of s) figure_of
