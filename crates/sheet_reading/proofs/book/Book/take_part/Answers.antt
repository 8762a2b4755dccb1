use Rattle.std.proofs.Common.{◌≡◌, ℕ, true, List, [], ◌∷◌, ◌++◌, Ok, Err, Result, sym, ap, ◌∙◌, arith}
use Rattle.std.proofs.lemmas.Grind.{common_steps}
use Rattle.std.specs.Result.{is_ok}
use Rattle.sheet.specs.Adding.{adding_refused, Added}
use Rattle.sheet.specs.Parts.{drafted, grade_of}
use Rattle.sheet.specs.declared.part.Part.{Part}
use Rattle.sheet.specs.declared.part_number.PartNumber.{PartNumber}
use Rattle.sheet.specs.declared.refusal.AddError.{AddError}
use Rattle.sheet_reading.proofs.book.Book.take_part.Goals as goal

-- the part that a draft took
took : (ps : List Part) (grade cents : ℕ) (r : Result PartNumber AddError) (ps' : List Part) → is_ok r ≡ true → Added ps grade cents r ps'
    → (adding_refused ps grade cents ≡ []) × ((p : Part) × (grade_of p ≡ grade) × (p.cents ≡ cents) × (ps' ≡ ps ++ p ∷ []))
took ps grade cents (Ok i) ps' ok added = (added.0, added.2)
took ps grade cents (Err e) ps' ok added = absurd cc

pub returns : goal.returns
returns c = λ most.
    let ok : is_ok c.add.result ≡ true = sym c.map_err.ensures.variant ∙ ap is_ok c.in_ok-map_err.was in
    let added = took (drafted c.args.self.now.draft) c.grade_of.result c.args.cents c.add.result (drafted c.add.new.self) ok c.add.ensures in
    (grind (arith, common_steps, added.0), (added.1.0, grind (arith, common_steps, added.0, added.1.1), added.1.2, grind (arith, common_steps, added.1.3)))
