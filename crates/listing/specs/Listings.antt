-- What a listing keeps, and which calls left it so. Assumes nothing.
use Rattle.std.specs.Prelude.{◌≡◌, ℕ, true, List, [], ◌∷◌, ◌++◌, length}
use Rattle.sheet.specs.declared.sealed.Sheet.{Sheet}
use Rattle.states.specs.Lists.{Pairwise}
use Rattle.rankings.specs.Orders.{ahead}
use Rattle.calls.specs.Calls.{Runs, Said}
use Rattle.calls.specs.Handing.{NextAnswer, Next}
use Rattle.calls.specs.Histories.{Moment, moment, Led}
use Rattle.calls.specs.Law.{ListingLaw}
use Rattle.calls.specs.Memories.{Memory}
use Rattle.calls.specs.Stations.{Station, station}
use Rattle.calls.specs.declared.answers.Call.{Call}
use Rattle.calls.specs.declared.answers.Ran.{Ran}
use Rattle.listing.specs.Queues.{waiting_in}
use Rattle.listing.specs.declared.listing.Listing.{Listing}
use Rattle.structures.specs.declared.structure.Structure.{Ghosts as StructureGhosts}
use Rattle.rankings.specs.declared.ranking.Ranking.{Ghosts as RankingGhosts}

-- what a listing works on: a sheet, a pile and a ranking
abbrev pub sheet_of : {S R K : Type 0} {sg : StructureGhosts S} {rg : RankingGhosts R K} → Listing S R K sg rg → Sheet
sheet_of l = l.queue.sheet.now

abbrev pub pile_of : {S R K : Type 0} {sg : StructureGhosts S} {rg : RankingGhosts R K} → Listing S R K sg rg → S
pile_of l = l.pile

abbrev pub ranking_of : {S R K : Type 0} {sg : StructureGhosts S} {rg : RankingGhosts R K} → Listing S R K sg rg → R
ranking_of l = l.queue.ranking

-- the station of these three
abbrev pub station_of : {S R K : Type 0} {sg : StructureGhosts S} {rg : RankingGhosts R K} → Listing S R K sg rg → Station
station_of {sg = sg} {rg = rg} l = station (sheet_of l) (sg.works (pile_of l)) (rg.outranks (ranking_of l) (sheet_of l))

-- what it keeps, as the calls' definitions see it
abbrev pub memory_of : {S R K : Type 0} {sg : StructureGhosts S} {rg : RankingGhosts R K} → Listing S R K sg rg → Memory
memory_of l = record { waiting = waiting_in l.queue; up = l.up; down = l.down; handed = l.handed }

-- sheet, pile and ranking are the same
pub record SameStation {S R K : Type 0} {sg : StructureGhosts S} {rg : RankingGhosts R K} (l l' : Listing S R K sg rg) : Type 0 where
  pub sheet : sheet_of l' ≡ sheet_of l
  pub pile : pile_of l' ≡ pile_of l
  pub ranking : ranking_of l' ≡ ranking_of l

-- the calls ms, made since it was opened, left the listing l
abbrev pub LeftBy : {S R K : Type 0} {sg : StructureGhosts S} {rg : RankingGhosts R K} → List Moment → Listing S R K sg rg → Type 0
LeftBy ms l = Led (station_of l) ms (memory_of l)

-- the waiting states stand in line: each is behind all later ones, and the last is the foremost
abbrev pub InLine : {S R K : Type 0} {sg : StructureGhosts S} {rg : RankingGhosts R K} → Listing S R K sg rg → Type 0
InLine {rg = rg} l = Pairwise (λ x y. ahead (rg.outranks (ranking_of l) (sheet_of l)) y x ≡ true) (waiting_in l.queue)

-- a listing was opened on this sheet, with this pile and this ranking
pub record Opened {S R K : Type 0} {sg : StructureGhosts S} {rg : RankingGhosts R K} (sheet : Sheet) (pile : S) (ranking : R) (l : Listing S R K sg rg) : Type 0 where
  pub sheet_is : sheet_of l ≡ sheet
  pub pile_is : pile_of l ≡ pile
  pub ranking_is : ranking_of l ≡ ranking
  pub left : LeftBy [] l
  pub in_line : InLine l

-- next on the listing l answered a and left l', as it is defined
abbrev pub Advanced : {S R K : Type 0} {sg : StructureGhosts S} {rg : RankingGhosts R K} → NextAnswer → Listing S R K sg rg → Listing S R K sg rg → Type 0
Advanced a l l' = Next (station_of l) (memory_of l) a (memory_of l')

-- a run on the listing l ended with r and left l', as it is defined
abbrev pub RanOn : {S R K : Type 0} {sg : StructureGhosts S} {rg : RankingGhosts R K} → ℕ → ℕ → Ran → Listing S R K sg rg → Listing S R K sg rg → Type 0
RanOn target budget r l l' = (xs : List ℕ) × (length xs ≡ r.count) × Runs (station_of l) target budget 0 (memory_of l) r.ending xs (memory_of l')

-- a call on the listing l answered a and left l': whatever calls left l, they and this one left l', the law holds of them, and what
-- waits stands in line
abbrev pub Called : {S R K : Type 0} {sg : StructureGhosts S} {rg : RankingGhosts R K} → Call → Said → Listing S R K sg rg → Listing S R K sg rg → Type 0
Called c a l l' =
    (ms : List Moment) → LeftBy ms l
    → (xs : List ℕ) × LeftBy (ms ++ moment c a xs (memory_of l') ∷ []) l' × ListingLaw (station_of l') (ms ++ moment c a xs (memory_of l') ∷ []) (memory_of l') × InLine l'
