-- Lists of calls carried out on a listing of their own. Assumes nothing.
use Rattle.std.specs.Prelude.{◌≡◌, List, map}
use Rattle.calls.specs.Histories.{Moment, Led, calls_in}
use Rattle.calls.specs.Law.{ListingLaw}
use Rattle.calls.specs.Memories.{Memory, figures_at}
use Rattle.calls.specs.Replies.{said_by}
use Rattle.calls.specs.Stations.{Station}
use Rattle.calls.specs.declared.answers.Call.{Call}
use Rattle.calls.specs.declared.answers.Replied.{Replied}

-- a listing of the station w was opened and the calls cs were made in turn; these are all their answers, with the figures after each
pub record CarriedOut (w : Station) (cs : List Call) (rs : List Replied) : Type 0 where
  pub moments : List Moment
  pub left : Memory
  pub led : Led w moments left
  pub calls_are : calls_in moments ≡ cs
  pub answers_are : map (λ r. said_by r.reply) rs ≡ map (λ m. m.answer) moments
  pub figures_are : map (λ r. r.figures) rs ≡ map (λ m. figures_at m.kept) moments
  -- and the law of listings holds of them
  pub law : ListingLaw w moments left
