-- What a listing keeps as it is opened, when the empty state alone waits. Assumes nothing.
use Rattle.std.proofs.Common.{◌≡◌, ℕ, ◌^◌, ◌≤◌, List, [], ◌∷◌, ap, subst, arith}
use Rattle.sheet.specs.Parts.{figures_of, count_of}
use Rattle.sheet.specs.declared.sealed.Sheet.{Sheet}
use Rattle.states.specs.Lists.{Same}
use Rattle.states.specs.Masses.{total, mass}
use Rattle.states.specs.Sums.{sum_of}
use Rattle.states.specs.Trees.{tree_sum}
use Rattle.states.proofs.Lists.{same_one}
use Rattle.states.proofs.Masses.{all_masses}
use Rattle.states.proofs.Trees.{whole_tree}
use Rattle.calls.proofs.Lawfully.{ones_below}

pub empty_alone : (x : ℕ) (zs zs' : List ℕ) → x ≡ 0 → zs ≡ [] → Same zs' (x ∷ zs) → zs' ≡ 0 ∷ []
empty_alone x zs zs' empty none same = same_one zs' 0 (subst (λ v. Same zs' (0 ∷ v)) none (subst (λ v. Same zs' (v ∷ zs)) empty same))

module _ (s : Sheet) (zs' : List ℕ) (alone : zs' ≡ 0 ∷ []) where
  pub opened_sums : sum_of (tree_sum (count_of s) (mass (figures_of s))) zs' ≡ total
  opened_sums = omega (arith, ap (sum_of (tree_sum (count_of s) (mass (figures_of s)))) alone, whole_tree (count_of s) (mass (figures_of s)), all_masses s)

  pub opened_count : sum_of (tree_sum (count_of s) (λ x. 1)) zs' ≤ 2 ^ count_of s
  opened_count = omega (arith, ap (sum_of (tree_sum (count_of s) (λ x. 1))) alone, whole_tree (count_of s) (λ x. 1), ones_below (2 ^ count_of s))
