-- A call on a listing, made of what its code does. Assumes nothing.
use Rattle.std.proofs.Common.{◌≡◌, ℕ, List, [], ◌∷◌, ◌++◌, sym, refl, ap, ◌∙◌, subst}
use Rattle.sheet.specs.declared.sealed.Sheet.{Sheet}
use Rattle.calls.specs.Calls.{Said, Step}
use Rattle.rankings.specs.Orders.{ahead}
use Rattle.rankings.proofs.Orders.{strict_order}
use Rattle.calls.specs.Histories.{Moment, moment, Led, more, handed_in}
use Rattle.calls.specs.Law.{ListingLaw}
use Rattle.calls.specs.Stations.{station, parts}
use Rattle.calls.specs.declared.answers.Call.{Call}
use Rattle.calls.proofs.Accounts.{waiting_different}
use Rattle.calls.proofs.Every.{every_listing}
use Rattle.calls.proofs.Invariant.{Lawful}
use Rattle.calls.proofs.Lawfully.{lasts}
use Rattle.listing.specs.Listings.{sheet_of, pile_of, ranking_of, memory_of, station_of, SameStation, LeftBy, InLine, Opened}
use Rattle.listing.specs.Queues.{waiting_in}
use Rattle.listing.proofs.Behind.{each_behind}
use Rattle.listing.specs.declared.listing.Listing.{Listing}
use Rattle.structures.specs.declared.structure.Structure.{Ghosts as StructureGhosts}
use Rattle.rankings.specs.declared.ranking.Ranking.{Ghosts as RankingGhosts}

module _ {S R K : Type 0} {sg : StructureGhosts S} {rg : RankingGhosts R K} where
  pub same_itself : (l : Listing S R K sg rg) → SameStation l l
  same_itself l = record { sheet = refl; pile = refl; ranking = refl }

  pub same_through : (l l₁ l₂ : Listing S R K sg rg) → SameStation l l₁ → SameStation l₁ l₂ → SameStation l l₂
  same_through l l₁ l₂ a b = record { sheet = b.sheet ∙ a.sheet; pile = b.pile ∙ a.pile; ranking = b.ranking ∙ a.ranking }

  pub station_same : (l l' : Listing S R K sg rg) → SameStation l l' → station_of l ≡ station_of l'
  station_same l l' same =
      ap (λ s. station s (sg.works (pile_of l)) (rg.outranks (ranking_of l) s)) (sym same.sheet)
      ∙ ap (λ p. station (sheet_of l') (sg.works p) (rg.outranks (ranking_of l) (sheet_of l'))) (sym same.pile)
      ∙ ap (λ r. station (sheet_of l') (sg.works (pile_of l')) (rg.outranks r (sheet_of l'))) (sym same.ranking)

  -- what calls left stands in line, since no state waits twice
  pub in_line : (l : Listing S R K sg rg) → Lawful (station_of l) → (ms : List Moment) → LeftBy ms l → InLine l
  in_line l laws ms left =
      let w = station_of l in
      let kept = (lasts w laws left).kept in
      each_behind (parts w) (ahead w.outranks) (strict_order (parts w) w.outranks laws.one_way laws.through) (waiting_in l.queue) kept.waiting_on_sheet
      (waiting_different w (handed_in ms) (memory_of l) kept) l.queue.in_order

  -- a step from l to l' is a call
  pub called : (l l' : Listing S R K sg rg) → Lawful (station_of l) → SameStation l l' → (c : Call) (a : Said) (ms : List Moment) → LeftBy ms l
      → (xs : List ℕ) → Step (station_of l) c (memory_of l) a xs (memory_of l')
      → (ys : List ℕ) × LeftBy (ms ++ moment c a ys (memory_of l') ∷ []) l' × ListingLaw (station_of l') (ms ++ moment c a ys (memory_of l') ∷ []) (memory_of l') × InLine l'
  called l l' laws same c a ms left xs step =
      let m = moment c a xs (memory_of l') in
      let led = more ms m left step in
      let e = station_same l l' same in
      let led' = subst (λ w. Led w (ms ++ m ∷ []) (memory_of l')) e led in
      let law = subst (λ w. ListingLaw w (ms ++ m ∷ []) (memory_of l')) e (every_listing (station_of l) laws led) in
      (xs, led', law, in_line l' (subst Lawful e laws) (ms ++ m ∷ []) led')

  -- a listing that was opened, and has its station still
  pub opened_station : (s : Sheet) (pile : S) (ranking : R) (l l' : Listing S R K sg rg) → Opened s pile ranking l → SameStation l l' → station_of l' ≡ station s (sg.works pile) (rg.outranks ranking s)
  opened_station s pile ranking l l' opened same =
      sym (station_same l l' same)
      ∙ ap (λ t. station t (sg.works (pile_of l)) (rg.outranks (ranking_of l) t)) opened.sheet_is
      ∙ ap (λ p. station s (sg.works p) (rg.outranks (ranking_of l) s)) opened.pile_is
      ∙ ap (λ r. station s (sg.works pile) (rg.outranks r s)) opened.ranking_is
