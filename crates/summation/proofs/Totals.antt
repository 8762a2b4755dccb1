-- One state more, and all states. Assumes nothing.
use Rattle.std.proofs.Common.{◌≡◌, ℕ, ◌+◌, ◌*◌, ◌%◌, ◌^◌, ◌<◌, ◌≤◌, Bool, cond, length, sym, ap, ◌∙◌, ap₂, lt_of_lt_of_le, mod-eq_of_lt, arith, pow_mono}
use Rattle.std.proofs.lemmas.Nat.{one_shl}
use Rattle.sheet.specs.Parts.{figures_of, count_of}
use Rattle.sheet.specs.declared.sealed.Sheet.{Sheet}
use Rattle.states.specs.Masses.{total, mass}
use Rattle.states.specs.Sums.{sum_below}
use Rattle.states.proofs.Masses.{conserved, figures_fine}
use Rattle.states.proofs.Sheets.{count_is}
use Rattle.states.proofs.Sums.{sum_more, sum_grows}
use Rattle.structures.specs.Reliability.{working_mass, failing_mass}
use Rattle.structures.proofs.Reliability.{both_sums}

-- the loop's end
pub all_numbers : (s : Sheet) (n : ℕ) → n ≡ count_of s → n ≤ 20 → 1 * 2 ^ n % 2 ^ 64 ≡ 2 ^ length (figures_of s)
all_numbers s n e few = one_shl n 64 (omega arith) ∙ ap (λ k. 2 ^ k) (e ∙ sym (count_is s))

-- one state of the sheet more: what a number makes it is that number
module _ (works : ℕ → Bool) (s : Sheet) (i : ℕ) (within : i < 2 ^ length (figures_of s)) where
  same : i % 2 ^ 40 ≡ i % 2 ^ length (figures_of s)
  same =
      let few : length (figures_of s) ≤ 40 = omega (arith, count_is s) in
      mod-eq_of_lt (lt_of_lt_of_le within (pow_mono few)) ∙ sym (mod-eq_of_lt within)

  itself : i % 2 ^ 40 ≡ i
  itself = same ∙ mod-eq_of_lt within

  pub working_more : sum_below (i + 1) (working_mass works (figures_of s)) ≡ sum_below i (working_mass works (figures_of s)) + cond (works (i % 2 ^ 40)) (mass (figures_of s) (i % 2 ^ 40)) 0
  working_more =
      sym (sum_more i (working_mass works (figures_of s)))
      ∙ ap (λ w. sum_below i (working_mass works (figures_of s)) + w) (ap₂ (λ x y. cond (works x) (mass (figures_of s) y) 0) (sym same) (sym itself))

  pub failing_more : sum_below (i + 1) (failing_mass works (figures_of s)) ≡ sum_below i (failing_mass works (figures_of s)) + cond (works (i % 2 ^ 40)) 0 (mass (figures_of s) (i % 2 ^ 40))
  failing_more =
      sym (sum_more i (failing_mass works (figures_of s)))
      ∙ ap (λ w. sum_below i (failing_mass works (figures_of s)) + w) (ap₂ (λ x y. cond (works x) 0 (mass (figures_of s) y)) (sym same) (sym itself))

-- the sums so far stay within the total
module _ (works : ℕ → Bool) (sh : Sheet) (i u d : ℕ) (up : u ≡ sum_below i (working_mass works (figures_of sh))) (down : d ≡ sum_below i (failing_mass works (figures_of sh))) where
  pub so_far : i ≤ 2 ^ length (figures_of sh) → u + d ≤ total
  so_far le =
      omega (arith, both_sums works (figures_of sh) i, sum_grows i (2 ^ length (figures_of sh)) (mass (figures_of sh)) le, conserved (figures_of sh) (figures_fine sh))

  pub in_all : i ≡ 2 ^ length (figures_of sh) → u + d ≡ total
  in_all e =
      ap₂ (◌+◌) up down ∙ both_sums works (figures_of sh) i ∙ ap (λ k. sum_below k (mass (figures_of sh))) e ∙ conserved (figures_of sh) (figures_fine sh)
