use Rattle.std.proofs.Common.{◌-◌, drop, ap, arith}
use Rattle.std.proofs.lemmas.List.{length-take, length-drop}
use Rattle.sheet_writing.proofs.Writers.{in_room, no_room}
use Rattle.sheet_writing.proofs.writer.Writer.bytes.Goals.{then-after-self, else-after-self}
use Rattle.sheet_writing.proofs.writer.Writer.bytes.Goals as goal

pub returns : goal.returns
returns c = elim c.if-after-self.branch [
  | then-after-self w ↦
      let p = c.args.self.now.place in
      let q = c.saturating_add-after.result in
      let b = c.args.self.now.buffer.now in
      in_room c.args.self.now c.args.bytes.now w.copy_from_slice.new.self q c.if-after-self.self.buffer (ap (λ s. s.buffer.ghost_name) w.self-is) (ap (λ s. s.buffer.now) w.self-is) w.copy_from_slice.ensures.after (omega (arith, w.copy_from_slice.ensures.len, length-take (q - p) (drop p b), length-drop p b, w.if-after-self.true)) c.saturating_add-after.ensures w.if-after-self.true (omega arith)
  | else-after-self w ↦ no_room c.args.self.now c.args.bytes.now c.saturating_add-after.result c.if-after-self.self.buffer (ap (λ s. s.buffer) w.self-is) c.saturating_add-after.ensures w.if-after-self.false
]
