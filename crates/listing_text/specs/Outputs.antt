-- What is written of a station's listing, and of a text. Assumes nothing.
use Rattle.std.specs.Prelude.{◌≡◌, ℕ, ◌<◌, ◌≤◌, ◌⊎◌, List, [], ◌++◌, map, length, ◌≢◌}
use Rattle.calls.specs.Histories.{Led}
use Rattle.calls.specs.Law.{ListingLaw}
use Rattle.calls.specs.Memories.{Memory}
use Rattle.calls.specs.Stations.{Station}
use Rattle.calls.specs.declared.answers.Ending.{Ending}
use Rattle.calls.specs.declared.answers.Ending.TheVariants as ends
use Rattle.sheet_lines.specs.declared.fault.Fault.{Fault}
use Rattle.sheet_reading.specs.Readings.{Holds, RefusedText}
use Rattle.sheet_reading.specs.Rules.{Content}
use Rattle.listing_text.specs.Refusals.{RefusalLine}
use Rattle.listing_text.specs.Rows.{Row, call_of, last_call, row_lines, header, end_line}
use Rattle.listing_text.specs.Stations.{station_in}

-- the listing ends so, tested in this order, once so many states of at most `most` are listed and it keeps l: nothing waits; or as many as allowed are listed; or next refused
abbrev pub Due : ℕ → ℕ → Memory → Ending → Type 0
Due most count l ends.Reached = ⊥
Due most count l ends.Finished = l.waiting ≡ []
Due most count l ends.Spent = (l.waiting ≢ []) × (count ≡ most)
Due most count l ends.Full = (l.waiting ≢ []) × (count < most)

-- out is the listing of the station w, of at most `most` states
pub record Lists (w : Station) (most : ℕ) (out : List ℕ) : Type 0 where
  pub rows : List Row
  pub ending : Ending
  pub left : Memory
  -- a listing was opened, and next was called: so many times it handed out a state, and then no more
  pub led : Led w (map call_of rows ++ last_call ending left) left
  pub few : length rows ≤ most
  pub due : Due most (length rows) left ending
  -- the law of listings holds of these calls
  pub law : ListingLaw w (map call_of rows ++ last_call ending left) left
  -- out has a line for each state handed out, in order, with the figures after it, and the line of the end
  pub text : out ≡ header ++ (row_lines 1 rows ++ end_line ending)

-- out is what listing a text gives: the line of its fault, or the listing of the station that it holds
abbrev pub ListsText : ℕ → List ℕ → List ℕ → Type 0
ListsText most text out =
    ((f : Fault) × RefusedText 256 text f × RefusalLine f out)
    ⊎ ((c : Content) × Holds 256 text c × Lists (station_in c) most out)
