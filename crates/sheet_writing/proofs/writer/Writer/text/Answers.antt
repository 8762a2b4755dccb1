use Rattle.std.proofs.Common.{[], ◌∷◌, length}
use Rattle.std.proofs.lemmas.List.{append_assoc}
use Rattle.sheet_lines.specs.Texts.{line_text, part_lines, path_lines}
use Rattle.sheet_lines.specs.declared.kind.Kind.TheVariants as kind
use Rattle.sheet_writing.proofs.Writers.{both, same_bytes}
use Rattle.sheet_writing.proofs.writer.Writer.text.Goals as goal

pub returns : goal.returns
returns c =
    let parts = c.args.parts.now in
    same_bytes _ _ _ _ (append_assoc (part_lines 1 parts) (path_lines (length parts) c.args.paths.now) (line_text kind.Feed (c.args.feed.number ∷ []))) (both _ _ _ _ _ (both _ _ _ _ _ c.part_lines.ensures c.path_lines.ensures) c.feed_line.ensures)
