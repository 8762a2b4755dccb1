-- Points: one part more, what they read, and the ranking's two laws. Assumes nothing.
use Rattle.std.specs.Prelude.{◌≡◌, ℕ, zero, suc, ◌+◌, ◌-◌, ◌/◌, ◌%◌, ◌^◌, ◌<◌, ◌≤◌, false, cond, List, [], ◌∷◌, length, ◌==◌, slice_index, slice_index_or, refl}
use Rattle.std.proofs.Common.{sym, ◌∙◌, le-ltb, add-zero}
use Rattle.std.proofs.lemmas.Bool.{ne_eqb}
use Rattle.std.proofs.Math.Path.{ap, ap₂}
use native.Mathlib.Omega.{arith}
use Rattle.std.proofs.lemmas.List.{length-map, get_or-map}
use Rattle.sheet.specs.Parts.{grades_of, grade_of, parts_of, count_of}
use Rattle.sheet.specs.declared.part.Part.{Part}
use Rattle.sheet.specs.declared.sealed.Sheet.{Sheet}
use Rattle.sheet.proofs.Figures.{grades_rise}
use Rattle.states.specs.Sets.{bit}
use Rattle.states.specs.Steps.{low, top, add_step, move_step}
use Rattle.states.proofs.Bits.{bit_low}
use Rattle.states.proofs.Steps.{Added, Moved, added_bits, moved_bits}
use Rattle.rankings.specs.Points.{points_upto, points, fewer}

pub points_none : (gs : List ℕ) (x : ℕ) → 0 ≡ points_upto gs 0 x
unfolding points_upto
points_none gs x = refl

-- what part l + 1 adds
pub points_more : (gs : List ℕ) (l x g s r : ℕ) → g ≡ slice_index gs l → s ≡ points_upto gs l x → r ≡ s + cond (x / 2 ^ l % 2 == 1) g 0 → r ≡ points_upto gs (l + 1) x
unfolding points_upto bit
points_more gs l x g s r eg es er =
    let e : l + 1 ≡ suc l = omega arith in
    er ∙ ap₂ (λ t n. t + cond (bit l x) n 0) es eg ∙ sym (ap (λ k. points_upto gs k x) e)

-- a part that has failed counts its grade, a sound one nothing
pub part_failed : (s : Sheet) (l x : ℕ) (p : Part) → p ≡ slice_index_or (parts_of s) l p → l < count_of s → x / 2 ^ l % 2 ≡ 1 → points_upto (grades_of s) (l + 1) x ≡ points_upto (grades_of s) l x + p.grade.number
unfolding points_upto bit
part_failed s l x p is_at within failed =
    let e : l + 1 ≡ suc l = omega arith in
    let grade : slice_index (grades_of s) l ≡ grade_of p = get_or-map grade_of (parts_of s) l p 0 within ∙ ap grade_of (sym is_at) in
    rw (e, failed, grade) refl

pub part_sound : (gs : List ℕ) (l x : ℕ) → (x / 2 ^ l % 2 ≡ 1 → ⊥) → points_upto gs (l + 1) x ≡ points_upto gs l x
unfolding points_upto bit
part_sound gs l x sound =
    let e : l + 1 ≡ suc l = omega arith in
    rw (e, ne_eqb (x / 2 ^ l % 2) 1 sound) (add-zero _)

points_same : (gs : List ℕ) (l x y : ℕ) → ((k : ℕ) → k < l → bit k y ≡ bit k x) → points_upto gs l y ≡ points_upto gs l x
unfolding points_upto
points_same gs zero x y same = refl
points_same gs (suc l) x y same =
    ap₂ (λ s b. s + cond b (slice_index gs l) 0) (points_same gs l x y (λ k h. same k (omega arith))) (same l (omega arith))

pub count_grades : (s : Sheet) → length (grades_of s) ≡ count_of s
count_grades s = length-map (parts_of s) grade_of

pub points_read : (s : Sheet) (x : ℕ) → points (grades_of s) (low (count_of s) x) ≡ points (grades_of s) x
points_read s x = points_same (grades_of s) (length (grades_of s)) x (low (count_of s) x) (λ k h. bit_low k (count_of s) x (omega (arith, count_grades s)))

-- what counting the points part by part stands on
pub ruleset counted = (points_none, part_failed, part_sound, points_read, count_grades)

module _ (gs : List ℕ) (x y : ℕ) where
  -- from part k on both states have the same parts
  points_grow : (k d : ℕ) → ((j : ℕ) → k ≤ j → bit j y ≡ bit j x) → points_upto gs k x ≤ points_upto gs k y → points_upto gs (d + k) x ≤ points_upto gs (d + k) y
  unfolding points_upto
  points_grow k zero same le = let e : zero + k ≡ k = omega arith in rw e le
  points_grow k (suc d) same le =
      let e : suc d + k ≡ suc (d + k) = omega arith in
      let before = points_grow k d same le in
      rw (e, same (d + k) (omega arith)) (omega arith)

  upto : (k : ℕ) → k ≤ length gs → ((j : ℕ) → k ≤ j → bit j y ≡ bit j x) → points_upto gs k x ≤ points_upto gs k y → points gs x ≤ points gs y
  upto k le same less = let e : (length gs - k) + k ≡ length gs = omega arith in rw e at (points_grow k (length gs - k) same less)

module _ (s : Sheet) (x y : ℕ) where
  abbrev gs : List ℕ
  gs = grades_of s

  points_add : (t : ℕ) → Added (count_of s) x y t → points gs x ≤ points gs y
  unfolding points_upto
  points_add t a =
      let same : points_upto gs t y ≡ points_upto gs t x = points_same gs t x y (λ k h. a.others k (λ e. omega arith)) in
      let y-is : points_upto gs (suc t) y ≡ points_upto gs t x + slice_index_or gs t 0 = ap₂ (λ p b. p + cond b (slice_index gs t) 0) same a.gained in
      let x-is : points_upto gs (suc t) x ≡ points_upto gs t x + 0 = ap (λ b. points_upto gs t x + cond b (slice_index gs t) 0) a.lacked in
      upto gs x y (suc t) (omega (arith, a.room, count_grades s)) (λ j le. a.others j (λ e. omega arith)) (omega (arith, y-is, x-is))

  points_move : (m : ℕ) → Moved (count_of s) x y m → points gs x ≤ points gs y
  unfolding points_upto
  points_move m a =
      let p = points_upto gs m x in
      let g = slice_index_or gs m 0 in
      let g' = slice_index_or gs (suc m) 0 in
      let same : points_upto gs m y ≡ p = points_same gs m x y (λ k h. a.others k (λ e. omega arith) (λ e. omega arith)) in
      let y-is : points_upto gs (suc (suc m)) y ≡ p + 0 + g' = ap₂ (λ t b. t + cond b g' 0) (ap₂ (λ t b. t + cond b g 0) same a.lost) a.gained in
      let x-is : points_upto gs (suc (suc m)) x ≡ p + g + 0 = ap₂ (λ t b. t + cond b g' 0) (ap (λ b. p + cond b g 0) a.had) a.lacked in
      upto gs x y (suc (suc m)) (omega (arith, a.room, count_grades s)) (λ j le. a.others j (λ e. omega arith) (λ e. omega arith))
      (omega (arith, y-is, x-is, grades_rise s m a.room))

pub add_law : (s : Sheet) (x y : ℕ) → x < 2 ^ count_of s → add_step (count_of s) x ≡ y ∷ [] → fewer (grades_of s) y x ≡ false
add_law s x y on_sheet step = le-ltb _ _ (points_add s x y (top (count_of s) x) (added_bits (count_of s) x y on_sheet step))

pub move_law : (s : Sheet) (x y : ℕ) → x < 2 ^ count_of s → move_step (count_of s) x ≡ y ∷ [] → fewer (grades_of s) y x ≡ false
move_law s x y on_sheet step = let found = moved_bits (count_of s) x y on_sheet step in le-ltb _ _ (points_move s x y found.0 found.1)
