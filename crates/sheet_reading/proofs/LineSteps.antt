-- A line that a book takes. Assumes nothing.
use Rattle.std.proofs.Common.{ℕ, List, [], ◌∷◌, Ok, Err, Result, inr, Bor}
use Rattle.sheet_lines.specs.Numbers.{Writes}
use Rattle.sheet_lines.specs.Tokens.{kind_in, fields_in}
use Rattle.sheet_lines.specs.declared.fault.Fault.{Fault}
use Rattle.sheet_lines.specs.declared.kind.Kind.TheVariants as kind
use Rattle.sheet_lines.specs.declared.token.Token.{Token}
use Rattle.sheet_lines.specs.declared.token.Token.TheVariants as token
use Rattle.sheet_reading.specs.Books.{Takes, TakesLine}
use Rattle.sheet_reading.specs.Numbers.{Written}
use Rattle.sheet_reading.specs.declared.book.Book.{Book}
use Rattle.sheet_reading.proofs.NumberSteps.{three_written, one_written}

takes_line : (most : ℕ) (b : Book) (t : Token) (ns : List ℕ) (line : ℕ) (r : Result (Unit {0}) Fault) (b' : Book) → Written (44 ∷ fields_in t) ns → Takes most b (kind_in t) ns line r b' → TakesLine most b t line r b'
takes_line most b t ns line (Ok u) b' w taken = (ns, w, taken.0, taken.1)
takes_line most b t ns line (Err f) b' w taken = inr (ns, w, taken.0, taken.1)

-- a part's line, by the numbers in its three fields
pub takes_part : (most : ℕ) (b : Book) (number grade cents : Bor (List ℕ)) (n g c line : ℕ) (r : Result (Unit {0}) Fault) (b' : Book) → Writes number.now n → Writes grade.now g → Writes cents.now c
    → Takes most b kind.Part (n ∷ (g ∷ (c ∷ []))) line r b' → TakesLine most b (token.Part number grade cents) line r b'
takes_part most b number grade cents n g c line r b' wn wg wc =
    takes_line most b (token.Part number grade cents) (n ∷ (g ∷ (c ∷ []))) line r b' (three_written number.now grade.now cents.now n wn g wg c wc)

-- the feed's, by the number in its one
pub takes_feed : (most : ℕ) (b : Book) (number : Bor (List ℕ)) (n line : ℕ) (r : Result (Unit {0}) Fault) (b' : Book) → Writes number.now n
    → Takes most b kind.Feed (n ∷ []) line r b' → TakesLine most b (token.Feed number) line r b'
takes_feed most b number n line r b' w = takes_line most b (token.Feed number) (n ∷ []) line r b' (one_written number.now n w)
