-- What replay promises. Assumes nothing.
use Rattle.std.specs.Prelude.{◌≡◌, ℕ, Bool, List, vec_items}
use Rattle.sheet.specs.declared.sealed.Sheet.{Sheet}
use Rattle.calls.specs.Replays.{CarriedOut}
use Rattle.calls.specs.Stations.{station}
use Rattle.calls.specs.declared.answers.Call.{Call}
use Rattle.replaying.specs.declared.replayed.Replayed.{Replayed}

-- the calls cs were carried out on this sheet, with this pile and this ranking, which are handed back
pub record Replays {S R : Type 0} (works : S → ℕ → Bool) (outranks : R → Sheet → ℕ → ℕ → Bool) (sheet : Sheet) (pile : S) (ranking : R) (cs : List Call) (p : Replayed S R) : Type 0 where
  pub pile_back : p.pile ≡ pile
  pub ranking_back : p.ranking ≡ ranking
  pub carried_out : CarriedOut (station sheet (works pile) (outranks ranking sheet)) cs (vec_items p.replies)
