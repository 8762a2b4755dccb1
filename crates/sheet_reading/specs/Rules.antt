-- The rules of a line, given the lines before it. Assumes nothing.
use Rattle.std.specs.Prelude.{◌≡◌, ℕ, suc, Bool, true, false, cond, ◌&&◌, List, [], ◌∷◌, ◌++◌, map, length, is_some, ◌==◌, nat_le, nat_lt, slice_index}
use Rattle.sheet.specs.Orders.{last_or}
use Rattle.sheet.specs.Parts.{grade_of}
use Rattle.sheet.specs.declared.part.Part.{Part}
use Rattle.sheet_lines.specs.declared.kind.Kind.{Kind}
use Rattle.sheet_lines.specs.declared.kind.Kind.TheVariants as kind
use Rattle.sheet_reading.specs.Paths.{first_off, set_of}
use Rattle.sheet_reading.specs.Stages.{next_stage}
use Rattle.sheet_reading.specs.declared.stage.Stage.{Stage}
use Rattle.sheet_reading.specs.declared.stage.Stage.TheVariants as stage

-- what was read: parts, paths by the numbers of their sets, how far the text has come, and the feed part, 0 before its line
pub record Content : Type 0 where
  pub parts : List Part
  pub paths : List ℕ
  pub at : Stage
  pub feed : ℕ

abbrev pub nothing : Content
nothing = record { parts = []; paths = []; at = stage.Parts; feed = 0 }

-- a rule: whether it is kept, and the number and field of the fault if it is not
pub record Rule : Type 0 where
  pub kept : Bool
  pub number : ℕ
  pub field : ℕ

abbrev pub rule : Bool → ℕ → ℕ → Rule
rule kept number field = record { kept = kept; number = number; field = field }

-- the line comes in its turn
abbrev pub in_turn : Content → Kind → Bool
in_turn c k = is_some (next_stage c.at k)

-- the line of a part of this number comes in its turn, and the number is the next
abbrev pub is_next : Content → ℕ → Bool
is_next c number = in_turn c kind.Part && number == suc (length c.parts)

-- no number of a path is wrong
abbrev pub rising : List ℕ → Rule
rising [] = rule true 19 0
rising (place ∷ places) = rule false 19 place

-- the rules of a line of this kind with these numbers, in their order, where so many paths are allowed
abbrev pub rules : ℕ → Content → Kind → List ℕ → List Rule
rules most c kind.Part ns =
    rule (is_next c (slice_index ns 0)) 18 1
    ∷ (rule (nat_lt (length c.parts) 40) 5 2
    ∷ (rule (nat_le (slice_index ns 1) 39) 2 3
    ∷ (rule (nat_le (last_or 0 (map grade_of c.parts)) (slice_index ns 1)) 4 3 ∷ [])))
rules most c kind.Path ns =
    rule (in_turn c kind.Path) 18 1
    ∷ (rising (first_off (length c.parts) 0 2 ns)
    ∷ (rule (nat_lt (length c.paths) most) 20 0 ∷ []))
rules most c kind.Feed ns =
    rule (in_turn c kind.Feed) 18 1
    ∷ (rule (nat_le 1 (slice_index ns 0) && nat_le (slice_index ns 0) (length c.parts)) 19 2 ∷ [])

-- the number and field of the first rule that is not kept; [] where all are
abbrev pub broken : List Rule → List ℕ
broken [] = []
broken (r ∷ rs) = cond r.kept (broken rs) (r.number ∷ (r.field ∷ []))

-- the line adds to what was read: a part with this grade and price, a path, or the feed
abbrev pub Adds : Content → Kind → List ℕ → Content → Type 0
Adds c kind.Part ns c' =
    (p : Part) × (grade_of p ≡ slice_index ns 1) × (p.cents ≡ slice_index ns 2)
    × (c' ≡ record { parts = c.parts ++ p ∷ []; paths = c.paths; at = stage.Parts; feed = c.feed })
Adds c kind.Path ns c' = c' ≡ record { parts = c.parts; paths = c.paths ++ set_of ns ∷ []; at = stage.Paths; feed = c.feed }
Adds c kind.Feed ns c' = c' ≡ record { parts = c.parts; paths = c.paths; at = stage.Done; feed = slice_index ns 0 }
