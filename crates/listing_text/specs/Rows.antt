-- The lines of a listing: one for each state handed out, and one for its end. Assumes nothing.
use Rattle.std.specs.Prelude.{ℕ, suc, List, [], ◌∷◌, ◌++◌, codes, decimal}
use Rattle.calls.specs.Calls.{next_said}
use Rattle.calls.specs.Handing.{handed_out, finished, full}
use Rattle.calls.specs.Histories.{Moment, moment}
use Rattle.calls.specs.Memories.{Memory, lower, upper}
use Rattle.calls.specs.Words.{verdict_word, ending_word}
use Rattle.calls.specs.declared.answers.Call.TheVariants as call
use Rattle.calls.specs.declared.answers.Ending.{Ending}
use Rattle.calls.specs.declared.answers.Ending.TheVariants as ends
use Rattle.calls.specs.declared.answers.Verdict.{Verdict}

-- a state that was handed out, its verdict, and what the listing kept after it
pub record Row : Type 0 where
  pub state : ℕ
  pub verdict : Verdict
  pub kept : Memory

-- the call of next that handed it out
abbrev pub call_of : Row → Moment
call_of r = moment call.Next (next_said (handed_out r.state r.verdict)) (r.state ∷ []) r.kept

-- the call of next that ends a listing, where nothing waits or too many would; one that has listed as many states as allowed makes none
abbrev pub last_call : Ending → Memory → List Moment
last_call ends.Reached l = []
last_call ends.Finished l = moment call.Next (next_said finished) [] l ∷ []
last_call ends.Spent l = []
last_call ends.Full l = moment call.Next (next_said full) [] l ∷ []

-- fields with commas between them, and byte 10
abbrev pub line_of : List ℕ → List (List ℕ) → List ℕ
line_of field [] = field ++ (10 ∷ [])
line_of field (next ∷ others) = field ++ (44 ∷ line_of next others)

-- the line of a state: its step, its number, its verdict, and the figures after it
abbrev pub row_line : ℕ → ℕ → Verdict → ℕ → ℕ → List ℕ
row_line step state verdict low high = line_of (decimal step) (decimal state ∷ (verdict_word verdict ∷ (decimal low ∷ (decimal high ∷ []))))

-- the lines of states, with steps from this one on
abbrev pub row_lines : ℕ → List Row → List ℕ
row_lines step [] = []
row_lines step (r ∷ rs) = row_line step r.state r.verdict (lower r.kept) (upper r.kept) ++ row_lines (suc step) rs

-- the line that names the fields
abbrev pub header : List ℕ
header = line_of (codes "step") (codes "state" ∷ (codes "verdict" ∷ (codes "lower" ∷ (codes "upper" ∷ []))))

-- the last line: how the listing ended
abbrev pub end_line : Ending → List ℕ
end_line e = line_of (codes "end") (ending_word e ∷ [])
