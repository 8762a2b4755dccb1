use Rattle.std.proofs.Common.{◌≡◌, ◌≤◌}
use Rattle.sheet.specs.Parts.{figures_of}
use Rattle.states.specs.Masses.{total, after}
use Rattle.states.proofs.state.State.left_after.Given as goal

abbrev pub invariant-loop-place : goal.invariant-loop-place
invariant-loop-place l = (l.left ≡ after (figures_of l.sheet) l.place l.self.number) × (l.left ≤ total)
