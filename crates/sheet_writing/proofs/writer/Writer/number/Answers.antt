use Rattle.std.proofs.Common.{◌∷◌, ap, ◌∙◌}
use Rattle.sheet_writing.proofs.Writers.{both, same_bytes}
use Rattle.sheet_writing.proofs.writer.Writer.number.Goals as goal

pub returns : goal.returns
returns c = same_bytes _ _ _ _ (ap (λ v. 44 ∷ v) (c.as_bytes.ensures.value ∙ c.format.ensures.text)) (both _ _ _ _ _ c.bytes.ensures c.bytes-2.ensures)
