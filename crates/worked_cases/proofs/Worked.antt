-- The worked cases, computed from the definitions. Assumes nothing.
use mathlib.Core.Path.{refl}
use lib.Dec.{leb-zero}
use Rattle.sheet.specs.Grades.{figure, table}
use Rattle.states.specs.Masses.{after}
use Rattle.states.specs.Sets.{bit}
use Rattle.states.specs.Steps.{top}
use Rattle.structures.specs.Meanings.{sound_parts}
use Rattle.networks.specs.Networks.{network_works, rounds}
use Rattle.networks.specs.Rounds.{same_terminals}
use Rattle.rankings.specs.Points.{points_upto}
use Rattle.worked_cases.specs.Worked.{WorkedCases}

pub worked : WorkedCases
unfolding figure table after bit top sound_parts points_upto network_works rounds
worked = record {
  two_failed = refl;
  two_failed_share = refl;
  last_two_share = refl;
  no_parts = refl;
  three_rare = refl;
  four_rare = refl;
  feed_one_failed = refl;
  feed_both_failed = refl;
  feed_itself_failed = refl;
  by_mass = refl;
  by_points_not_over = refl;
  by_points_not_under = refl;
  by_points = refl;
  first_second = refl;
  second_third = refl;
  third_fourth = refl;
  quorum_two_sound = refl;
  quorum_one_sound = refl;
  quorum_of_none = λ x. leb-zero (sound_parts 40 0 x);
  bypass_sound = refl;
  bypass_failed = refl;
  two_ways = refl;
  no_way = refl;
  equal_terminals = same_terminals;
}
