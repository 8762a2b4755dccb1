-- The words by which a listing's answers are written. Assumes nothing.
use Rattle.std.specs.Prelude.{ℕ, List, codes}
use Rattle.calls.specs.declared.answers.Ending.{Ending}
use Rattle.calls.specs.declared.answers.Ending.TheVariants as ends
use Rattle.calls.specs.declared.answers.Verdict.{Verdict}
use Rattle.calls.specs.declared.answers.Verdict.TheVariants.{Up, Down}

-- a verdict's word, by its bytes
abbrev pub verdict_word : Verdict → List ℕ
verdict_word Up = codes "up"
verdict_word Down = codes "down"

-- the word for how a run ended
abbrev pub ending_word : Ending → List ℕ
ending_word ends.Reached = codes "reached"
ending_word ends.Finished = codes "finished"
ending_word ends.Spent = codes "spent"
ending_word ends.Full = codes "full"
