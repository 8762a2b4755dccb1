use Rattle.std.proofs.Common.{◌≡◌, [], arith, subst, sym, ap}
use Rattle.sheet_lines.specs.Texts.{line_text, members}
use Rattle.sheet_lines.specs.declared.kind.Kind.TheVariants as kind
use Rattle.sheet_writing.specs.Writers.{Wrote}
use Rattle.sheet_writing.proofs.Lines.{no_members, next_member, no_member, line_written}
use Rattle.sheet_writing.proofs.Writers.{same_bytes}
use Rattle.sheet_writing.proofs.writer.Writer.path_line.Goals.{then-path-place-eq1, else-path-place-eq1}
use Rattle.sheet_writing.proofs.writer.Writer.path_line.Goals as goal

pub loop-place-init : goal.loop-place-init
loop-place-init c = no_members c.word.new.self c.args.path (omega (arith, c.word.ensures.place))

pub loop-place-preserved : goal.loop-place-preserved
loop-place-preserved c =
    let i = c.loop-place.place in
    elim c.if-path-place-eq1.branch [
      | then-path-place-eq1 w ↦ subst (Wrote c.word.new.self _) (sym w.self-is) (next_member c.word.new.self c.loop-place.self w.number.new.self i c.args.path c.loop-place.invariant w.number.ensures w.if-path-place-eq1.true)
      | else-path-place-eq1 w ↦ subst (Wrote c.word.new.self _) (sym w.self-is) (no_member c.word.new.self c.loop-place.self i c.args.path c.loop-place.invariant w.if-path-place-eq1.false)
    ]

pub returns : goal.returns
returns c =
    let all : c.loop-place.place ≡ c.args.parts = omega (arith, c.loop-place-test.false, c.loop-place.auto.place-end) in
    same_bytes _ _ _ _ (ap (λ n. line_text kind.Path (members n c.args.path [])) all) (line_written _ _ _ _ kind.Path (members c.loop-place.place c.args.path []) c.word.ensures c.loop-place.invariant c.bytes.ensures)
