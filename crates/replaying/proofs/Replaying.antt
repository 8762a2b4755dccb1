-- Calls carried out one after another. Assumes nothing.
use Rattle.std.proofs.Common.{◌≡◌, List, [], ◌∷◌, ◌++◌, map, refl, ap, ◌∙◌, sym, subst, ap₂}
use Rattle.std.proofs.lemmas.List.{map_push}
use Rattle.calls.specs.Histories.{Moment, moment, Led, calls_in}
use Rattle.calls.specs.Memories.{figures_at}
use Rattle.calls.specs.Replays.{CarriedOut}
use Rattle.calls.specs.Replies.{said_by}
use Rattle.calls.specs.Stations.{Station}
use Rattle.calls.specs.declared.answers.Call.{Call}
use Rattle.calls.specs.declared.answers.Replied.{Replied}
use Rattle.calls.proofs.Every.{every_listing}
use Rattle.calls.proofs.Invariant.{Lawful}
use Rattle.listing.specs.Listings.{memory_of, station_of, LeftBy, Called}
use Rattle.listing.specs.declared.listing.Listing.{Listing}
use Rattle.structures.specs.declared.structure.Structure.{Ghosts as StructureGhosts}
use Rattle.rankings.specs.declared.ranking.Ranking.{Ghosts as RankingGhosts}

module _ {S R K : Type 0} {sg : StructureGhosts S} {rg : RankingGhosts R K} where
  -- the calls cs were made since the listing l was opened, and gave rs
  pub record Made (cs : List Call) (rs : List Replied) (l : Listing S R K sg rg) : Type 0 where
    pub moments : List Moment
    pub left : LeftBy moments l
    pub calls_are : calls_in moments ≡ cs
    pub answers_are : map (λ r. said_by r.reply) rs ≡ map (λ m. m.answer) moments
    pub figures_are : map (λ r. r.figures) rs ≡ map (λ m. figures_at m.kept) moments

  pub none_made : (l : Listing S R K sg rg) → LeftBy [] l → Made [] [] l
  none_made l left = record { moments = []; left = left; calls_are = refl; answers_are = refl; figures_are = refl }

  pub one_made : (cs : List Call) (rs : List Replied) (l l' : Listing S R K sg rg) → Made cs rs l → (c : Call) (r : Replied) → Called c (said_by r.reply) l l' → r.figures ≡ figures_at (memory_of l')
      → Made (cs ++ c ∷ []) (rs ++ r ∷ []) l'
  one_made cs rs l l' made c r call figures =
      let ms = made.moments in
      let done = call ms made.left in
      let m = moment c (said_by r.reply) done.0 (memory_of l') in
      record {
        moments = ms ++ m ∷ [];
        left = done.1;
        calls_are = map_push (λ v. v.made) ms m ∙ ap (λ v. v ++ c ∷ []) made.calls_are;
        answers_are = map_push (λ v. said_by v.reply) rs r ∙ ap (λ v. v ++ said_by r.reply ∷ []) made.answers_are ∙ sym (map_push (λ v. v.answer) ms m);
        figures_are = map_push (λ v. v.figures) rs r ∙ ap₂ (λ v f. v ++ f ∷ []) made.figures_are figures ∙ sym (map_push (λ v. figures_at v.kept) ms m);
      }

  pub all_made : (w : Station) → Lawful w → (cs : List Call) (rs : List Replied) (l : Listing S R K sg rg) → station_of l ≡ w → Made cs rs l → CarriedOut w cs rs
  all_made w laws cs rs l e made =
      let led = subst (λ v. Led v made.moments (memory_of l)) e made.left in
      record {
        moments = made.moments;
        left = memory_of l;
        led = led;
        calls_are = made.calls_are;
        answers_are = made.answers_are;
        figures_are = made.figures_are;
        law = every_listing w laws led;
      }
