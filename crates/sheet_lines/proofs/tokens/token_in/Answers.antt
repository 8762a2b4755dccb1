use Rattle.std.proofs.Common.{◌≡◌, List, ℕ, Some, None, Err, Option, Result, MatchOption, Bor}
use Rattle.std.proofs.lemmas.Result.{err_from_is_err_and}
use Rattle.std.specs.Option.{ok_or}
use Rattle.sheet_lines.specs.Cuts.{Free, Cut}
use Rattle.sheet_lines.specs.Tokens.{ReadsToken}
use Rattle.sheet_lines.specs.Words.{Names}
use Rattle.sheet_lines.specs.declared.kind.Kind.{Kind}
use Rattle.sheet_lines.specs.declared.line_error.LineError.{LineError}
use Rattle.sheet_lines.specs.declared.line_error.LineError.TheVariants.{UnknownWord}
use Rattle.sheet_lines.proofs.Cutting.{begins_with}
use Rattle.sheet_lines.proofs.tokens.token_in.Goals as goal

-- a line whose word names no kind has none
unknown : (line word : List ℕ) (fields : Option (Bor (List ℕ))) → MatchOption fields ((word ≡ line) × Free 44 line) (λ f. Cut 44 line word f.now)
    → (kind : Option Kind) → Names word kind → (e : LineError) → ◌≡◌ {A = Result Kind LineError} (Err e) (ok_or kind UnknownWord) → ReadsToken line (Err e)
unknown line word fields opened (Some k) names e is = absurd cc
unknown line word fields opened None none e is =
    let same : e ≡ UnknownWord = cc in
    rw same (λ k begins. none k (begins_with k line word fields opened begins))

pub returns-in_err-kind : goal.returns-in_err-kind
returns-in_err-kind c =
    let p = err_from_is_err_and c.from_residual.result c.from_residual.ensures.1 in
    rw (p.1, p.2) (unknown c.args.line.now _ _ c.first_field.ensures _ c.kind_of.ensures _ c.in_err-kind.ensures.value)
