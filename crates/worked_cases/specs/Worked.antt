-- Cases worked by hand, as statements about the definitions. States by their numbers: 3 is parts 1 and 2, 4 is part 3, 5 is
-- parts 1 and 3, 6 is parts 2 and 3, 7 is all three. Assumes nothing.
use Rattle.std.specs.Prelude.{◌≡◌, List, [], ◌∷◌, map, Bool, true, false, ℕ}
use Rattle.sheet.specs.Grades.{figure}
use Rattle.states.specs.Masses.{mass}
use Rattle.states.specs.Steps.{share}
use Rattle.structures.specs.Meanings.{path_list_works, quorum_works, feed_works, bypass_works}
use Rattle.networks.specs.Networks.{network_works}
use Rattle.networks.specs.declared.link.Link.{Link}
use Rattle.rankings.specs.Exact.{heavier}
use Rattle.rankings.specs.Orders.{ahead}
use Rattle.rankings.specs.Points.{fewer}

-- the figures of parts of these grades
abbrev figures : List ℕ → List ℕ
figures grades = map figure grades

-- two parts of grade 7 and one of grade 17
abbrev pub small : List ℕ
small = figures (7 ∷ (7 ∷ (17 ∷ [])))

-- four parts of grade 39
abbrev pub rare : List ℕ
rare = figures (39 ∷ (39 ∷ (39 ∷ (39 ∷ []))))

-- part 1 alone serves, or part 2 alone
abbrev pub either : ℕ → Bool
either = path_list_works (1 ∷ (2 ∷ []))

-- two parts of grade 3 and one of grade 6
abbrev pub mixed : List ℕ
mixed = 3 ∷ (3 ∷ (6 ∷ []))

-- two parts of grade 0
abbrev pub even : List ℕ
even = figures (0 ∷ (0 ∷ []))

-- links between masts 0 and 1 with part 1, 1 and 2 with part 2, 0 and 2 with part 3
abbrev pub triangle : List Link
triangle =
    record { one = 0; other = 1; part = 1 } ∷ (record { one = 1; other = 2; part = 2 } ∷ (record { one = 0; other = 2; part = 3 } ∷ []))

pub record WorkedCases : Type 0 where
  -- masses and shares
  pub two_failed : mass small 3 ≡ 9900000000000000
  pub two_failed_share : share small 3 ≡ 10000000000000000
  pub last_two_share : share small 6 ≡ 900000000000000
  pub no_parts : mass [] 0 ≡ 1000000000000000000
  pub three_rare : mass rare 7 ≡ 250032
  pub four_rare : mass rare 15 ≡ 15
  -- feed 3 above the two paths
  pub feed_one_failed : feed_works 3 either 1 ≡ true
  pub feed_both_failed : feed_works 3 either 3 ≡ false
  pub feed_itself_failed : feed_works 3 either 4 ≡ false
  -- grades 3, 3, 6: by mass 4 is ahead of 3, by points they tie and 3 is ahead
  pub by_mass : ahead (heavier (figures mixed)) 4 3 ≡ true
  pub by_points_not_over : fewer mixed 4 3 ≡ false
  pub by_points_not_under : fewer mixed 3 4 ≡ false
  pub by_points : ahead (fewer mixed) 3 4 ≡ true
  -- grades 0, 0: all masses are the same, and the order is 0, 1, 2, 3
  pub first_second : ahead (heavier even) 0 1 ≡ true
  pub second_third : ahead (heavier even) 1 2 ≡ true
  pub third_fourth : ahead (heavier even) 2 3 ≡ true
  -- quorum 2 of parts 1, 2 and 3, and 0 of none
  pub quorum_two_sound : quorum_works 2 7 4 ≡ true
  pub quorum_one_sound : quorum_works 2 7 5 ≡ false
  pub quorum_of_none : (x : ℕ) → quorum_works 0 0 x ≡ true
  -- bypass 3 above the two paths
  pub bypass_sound : bypass_works 3 either 3 ≡ true
  pub bypass_failed : bypass_works 3 either 7 ≡ false
  -- the triangle of links, from mast 0 to mast 2; and equal terminals
  pub two_ways : network_works 0 2 triangle 1 ≡ true
  pub no_way : network_works 0 2 triangle 5 ≡ false
  pub equal_terminals : (t : ℕ) (links : List Link) (x : ℕ) → network_works t t links x ≡ true
