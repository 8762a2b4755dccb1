-- The law holds of every listing, whatever calls were made. Assumes nothing.
use Rattle.std.proofs.Common.{◌≡◌, ◌^◌, ◌<◌, true, false, List, length, ap, ⊎_elim, arith}
use Rattle.std.proofs.lemmas.Bool.{cases_Bool}
use Rattle.calls.specs.Histories.{Moment, Led, handed_in, finished_in, full_in, nexts_in}
use Rattle.calls.specs.Law.{HistoryLaw, ListingLaw}
use Rattle.calls.specs.Memories.{Memory}
use Rattle.calls.specs.Stations.{Station, parts}
use Rattle.calls.proofs.Bounds.{narrows, few_led, not_full_early, nexts_few}
use Rattle.calls.proofs.Histories.{handed_push, cut_at}
use Rattle.calls.proofs.Invariant.{Lawful}
use Rattle.calls.proofs.Lawfully.{lasts, order_holds, figures_hold, heaviest_out}
use Rattle.calls.proofs.Unique.{one_history}

module _ (w : Station) (laws : Lawful w) {ms : List Moment} {l : Memory} (led : Led w ms l) where
  comes_to_an_end : full_in ms ≡ false → 2 ^ parts w < nexts_in ms → finished_in ms ≡ true
  comes_to_an_end never many =
      ⊎_elim (λ t. t) (λ f. absurd (omega (arith, nexts_few w led never f, (figures_hold w laws (handed_in ms) (finished_in ms) l (lasts w laws led)).count_bound))) (cases_Bool (finished_in ms))

  history_holds : HistoryLaw w ms
  history_holds = record {
    never_widens = λ before m after e. narrows w (cut_at w before m after e led).step;
    one_history = λ ns k other same. (one_history w laws same other led).sights;
    never_full_early = λ before m after e few.
        let cut = cut_at w before m after e led in
        not_full_early w (handed_in before) (few_led w cut.led) cut.step (omega (arith, ap length (handed_push before m)));
    comes_to_an_end = comes_to_an_end;
  }

  pub every_listing : ListingLaw w ms l
  every_listing =
      let lasting = lasts w laws led in
      record {
        order = order_holds w laws (handed_in ms) (finished_in ms) l lasting;
        figures = figures_hold w laws (handed_in ms) (finished_in ms) l lasting;
        heaviest = heaviest_out w laws (handed_in ms) (finished_in ms) l lasting;
        history = history_holds;
      }
