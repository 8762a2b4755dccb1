-- What one step of a listing does. Assumes nothing.
use Rattle.std.specs.Prelude.{◌≡◌, ℕ, ◌<◌, ◌≤◌, length}
use Rattle.calls.specs.Calls.{next_said}
use Rattle.calls.specs.Handing.{handed_out, finished, full}
use Rattle.calls.specs.Memories.{figures_at}
use Rattle.calls.specs.declared.answers.Call.TheVariants as call
use Rattle.calls.specs.declared.answers.Ending.{Ending}
use Rattle.calls.specs.declared.answers.Ending.TheVariants as ends
use Rattle.calls.specs.declared.answers.Handed.{Handed}
use Rattle.listing.specs.Listings.{memory_of, Called}
use Rattle.listing.specs.declared.listing.Listing.{Listing}
use Rattle.listing_text.specs.declared.step.Step.{Step}
use Rattle.structures.specs.declared.structure.Structure.{Ghosts as StructureGhosts}
use Rattle.rankings.specs.declared.ranking.Ranking.{Ghosts as RankingGhosts}

-- some states wait, and as many as allowed were handed out
pub record Spent {S R K : Type 0} {sg : StructureGhosts S} {rg : RankingGhosts R K} (most : ℕ) (l : Listing S R K sg rg) : Type 0 where
  pub some_wait : 0 < length (memory_of l).waiting
  pub all_allowed : most ≤ (memory_of l).handed

-- if some states wait, fewer than allowed were handed out
abbrev pub NotSpent : {S R K : Type 0} {sg : StructureGhosts S} {rg : RankingGhosts R K} → ℕ → Listing S R K sg rg → Type 0
NotSpent most l = 0 < length (memory_of l).waiting → (memory_of l).handed < most

-- next was called, and handed out h
pub record HandsOn {S R K : Type 0} {sg : StructureGhosts S} {rg : RankingGhosts R K} (most : ℕ) (l : Listing S R K sg rg) (h : Handed) (l' : Listing S R K sg rg) : Type 0 where
  pub not_spent : NotSpent most l
  pub called : Called call.Next (next_said (handed_out h.state.number h.verdict)) l l'

-- next was called and handed out the step's state, and these are the figures after it
pub record Steps {S R K : Type 0} {sg : StructureGhosts S} {rg : RankingGhosts R K} (most : ℕ) (l : Listing S R K sg rg) (s : Step) (l' : Listing S R K sg rg) : Type 0 where
  pub hands_on : HandsOn most l s.handed l'
  pub figures : s.figures ≡ figures_at (memory_of l')

-- the listing ends so
abbrev pub Stops : {S R K : Type 0} {sg : StructureGhosts S} {rg : RankingGhosts R K} → ℕ → Listing S R K sg rg → Ending → Listing S R K sg rg → Type 0
Stops most l ends.Reached l' = ⊥
Stops most l ends.Finished l' = Called call.Next (next_said finished) l l'
Stops most l ends.Spent l' = Spent most l × (l' ≡ l)
Stops most l ends.Full l' = NotSpent most l × Called call.Next (next_said full) l l'
