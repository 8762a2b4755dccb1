use Rattle.std.proofs.Common.{◌≡◌, ◌*◌, ◌≤◌}
use Rattle.sheet.specs.Parts.{grades_of}
use Rattle.rankings.specs.Points.{points_upto}
use Rattle.rankings.proofs.by_points.points_of.Given as goal

abbrev pub invariant-loop-place : goal.invariant-loop-place
invariant-loop-place l = (l.sum ≡ points_upto (grades_of l.sheet) l.place l.state.number) × (l.sum ≤ 39 * l.place)
