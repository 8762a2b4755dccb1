-- Writing one run of bytes after another. Assumes nothing.
use Rattle.std.proofs.Common.{◌≡◌, ℕ, ◌+◌, ◌-◌, ◌^◌, ◌<◌, ◌≤◌, min, List, [], ◌++◌, length, take, drop, sym, refl, ap, ◌∙◌, subst, arith, MutBor}
use Rattle.std.proofs.lemmas.List.{append-nil, append_assoc, length-append, length-take, length-drop, drop-drop}
use Rattle.std.proofs.lemmas.Slice.{take-put_mid, drop-put_mid}
use borrow.Rule.Slice.PartMut.{put_mid}
use Rattle.sheet_writing.specs.Writers.{Wrote}
use Rattle.sheet_writing.specs.declared.writer.Writer.{Writer}

-- nothing was written
pub nothing : (w : Writer) → w.place ≤ 2 ^ 64 - 1 → Wrote w [] w
nothing w fits = record {
  same_buffer = refl;
  same_room = refl;
  place = omega arith;
  before = λ h. sym (append-nil (take w.place w.buffer.now));
  after = λ h. refl;
}

-- one run of bytes, and then another
pub both : (w w' w'' : Writer) (xs ys : List ℕ) → Wrote w xs w' → Wrote w' ys w'' → Wrote w (xs ++ ys) w''
both w w' w'' xs ys first second =
    let order : w'.place ≤ w''.place = omega (arith, first.place, second.place) in
    record {
      same_buffer = second.same_buffer ∙ first.same_buffer;
      same_room = second.same_room ∙ first.same_room;
      place = omega (arith, first.place, second.place, length-append xs ys);
      before = λ h.
          let room : w''.place ≤ length w'.buffer.now = omega (arith, h, first.same_room) in
          let less : w'.place ≤ length w.buffer.now = omega (arith, h, order) in
          second.before room ∙ ap (λ v. v ++ ys) (first.before less) ∙ append_assoc (take w.place w.buffer.now) xs ys;
      after = λ h.
          let room : w''.place ≤ length w'.buffer.now = omega (arith, h, first.same_room) in
          let less : w'.place ≤ length w.buffer.now = omega (arith, h, order) in
          let e : w'.place + (w''.place - w'.place) ≡ w''.place = omega (arith, order) in
          let on : (b : List ℕ) → drop w''.place b ≡ drop (w''.place - w'.place) (drop w'.place b) = λ b. ap (λ n. drop n b) (sym e) ∙ sym (drop-drop (w''.place - w'.place) w'.place b) in
          second.after room ∙ on w'.buffer.now ∙ ap (drop (w''.place - w'.place)) (first.after less) ∙ sym (on w.buffer.now);
    }

-- the same bytes, written otherwise
pub same_bytes : (w w' : Writer) (xs ys : List ℕ) → xs ≡ ys → Wrote w xs w' → Wrote w ys w'
same_bytes w w' xs ys e wrote = subst (λ v. Wrote w v w') e wrote

-- so far of the whole, this is left to be written
pub record SoFar (w : Writer) (whole rest : List ℕ) (w' : Writer) : Type 0 where
  pub front : List ℕ
  pub wrote : Wrote w front w'
  pub bytes : front ++ rest ≡ whole

pub begun : (w : Writer) (whole : List ℕ) → w.place ≤ 2 ^ 64 - 1 → SoFar w whole whole w
begun w whole fits = record { front = []; wrote = nothing w fits; bytes = refl }

pub one_more : (w w' w'' : Writer) (whole line rest : List ℕ) → SoFar w whole (line ++ rest) w' → Wrote w' line w'' → SoFar w whole rest w''
one_more w w' w'' whole line rest so wrote = record {
  front = so.front ++ line;
  wrote = both w w' w'' so.front line so.wrote wrote;
  bytes = append_assoc so.front line rest ∙ so.bytes;
}

pub all_written : (w w' : Writer) (whole rest : List ℕ) → SoFar w whole rest w' → rest ≡ [] → Wrote w whole w'
all_written w w' whole rest so e =
    subst (λ v. Wrote w v w') (sym (append-nil so.front) ∙ ap (λ v. so.front ++ v) (sym e) ∙ so.bytes) so.wrote

-- bytes put where there is room for them
pub in_room : (w : Writer) (bytes ys : List ℕ) (q : ℕ) (b : MutBor (List ℕ)) → b.ghost_name ≡ w.buffer.ghost_name → b.now ≡ put_mid w.place (q - w.place) w.buffer.now ys → ys ≡ bytes
    → length ys ≡ q - w.place → q ≡ min (w.place + length bytes) (2 ^ 64 - 1) → q ≤ length w.buffer.now → w.place ≤ q → Wrote w bytes (record { buffer = b; place = q })
in_room w bytes ys q b same put e many place room order =
    let within : w.place ≤ length w.buffer.now = omega arith in
    let long : length (put_mid w.place (q - w.place) w.buffer.now ys) ≡ length w.buffer.now =
    omega (arith, length-append (take w.place w.buffer.now) (ys ++ drop (q - w.place) (drop w.place w.buffer.now)), length-append ys (drop (q - w.place) (drop w.place w.buffer.now)), length-take w.place w.buffer.now, length-drop (q - w.place) (drop w.place w.buffer.now), length-drop w.place w.buffer.now) in
    record {
      same_buffer = same;
      same_room = ap length put ∙ long;
      place = place;
      before = λ h. ap (take q) put ∙ take-put_mid w.place (q - w.place) w.buffer.now ys q (omega arith) within ∙ ap (λ v. take w.place w.buffer.now ++ v) e;
      after = λ h. ap (drop q) put ∙ drop-put_mid w.place (q - w.place) w.buffer.now ys q (omega arith) within many;
    }

-- and left out where there is none
pub no_room : (w : Writer) (bytes : List ℕ) (q : ℕ) (b : MutBor (List ℕ)) → b ≡ w.buffer → q ≡ min (w.place + length bytes) (2 ^ 64 - 1) → length w.buffer.now < q → Wrote w bytes (record { buffer = b; place = q })
no_room w bytes q b same place none = record {
  same_buffer = ap (λ r. r.ghost_name) same;
  same_room = ap (λ r. length r.now) same;
  place = place;
  before = λ h. absurd (omega (arith, h, none));
  after = λ h. absurd (omega (arith, h, none));
}
