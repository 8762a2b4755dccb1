use Rattle.std.proofs.Common.{◌≡◌}
use Rattle.sheet.specs.Parts.{figures_of}
use Rattle.states.specs.Sums.{sum_below}
use Rattle.structures.specs.Reliability.{working_mass, failing_mass}
use Rattle.summation.proofs.summing.all_states.Given as goal

-- the states so far are summed
abbrev pub invariant-loop-number : goal.invariant-loop-number
invariant-loop-number g l =
    (l.sums.working ≡ sum_below l.number (working_mass (g.S.Structure.works l.pile) (figures_of l.sheet)))
    × (l.sums.failing ≡ sum_below l.number (failing_mass (g.S.Structure.works l.pile) (figures_of l.sheet)))
