-- The exact ranking's two laws, of the rounded masses themselves. Assumes nothing.
use Rattle.std.specs.Prelude.{◌≡◌, ℕ, zero, suc, ◌+◌, ◌-◌, ◌*◌, ◌^◌, ◌<◌, ◌≤◌, Bool, true, false, List, [], ◌∷◌, length, slice_index, slice_index_or}
use Rattle.std.proofs.Math.Path.{refl, ap, ap₂}
use Rattle.std.proofs.Common.{mul-le-mul_left, mul-le-mul_right, le-ltb}
use native.Mathlib.Omega.{arith}
use Rattle.sheet.specs.Parts.{figures_of, count_of}
use Rattle.sheet.specs.declared.sealed.Sheet.{Sheet}
use Rattle.sheet.proofs.Figures.{figures_half, figures_fall}
use Rattle.states.specs.Masses.{fall, goes_on, after, mass}
use Rattle.states.specs.Sets.{bit}
use Rattle.states.specs.Steps.{top, add_step, move_step}
use Rattle.states.proofs.Masses.{Figures, figures_fine, after_same, fall_le}
use Rattle.states.proofs.Sheets.{count_is}
use Rattle.states.proofs.Steps.{Added, Moved, added_bits, moved_bits}
use Rattle.rankings.specs.Exact.{heavier}

-- more stays more, after a part that has failed and after one that is sound
goes_on_grows : (q s t : ℕ) (b : Bool) → q ≤ 1000000 → s ≤ t → goes_on q s b ≤ goes_on q t b
goes_on_grows q s t true h le = omega (arith, mul-le-mul_right q le)
goes_on_grows q s t false h le =
    let d : ℕ = t - s in
    let e : t ≡ s + d = omega arith in
    omega (arith, mul-le-mul_left d h, mul-le-mul_left s h, ap (λ n. n * q) e)

module _ (qs : List ℕ) (fig : Figures qs) (x y : ℕ) where
  -- from part k on both states go on alike
  after_grows : (k d : ℕ) → ((j : ℕ) → k ≤ j → bit j y ≡ bit j x) → after qs k y ≤ after qs k x → after qs (d + k) y ≤ after qs (d + k) x
  unfolding after
  after_grows k zero same le = let e : zero + k ≡ k = omega arith in rw e le
  after_grows k (suc d) same le =
      let e : suc d + k ≡ suc (d + k) = omega arith in
      let before = after_grows k d same le in
      let step = goes_on_grows (slice_index qs (d + k)) (after qs (d + k) y) (after qs (d + k) x) (bit (d + k) x) (fig (d + k)) before in
      rw (e, same (d + k) (omega arith)) step

  upto : (k : ℕ) → k ≤ length qs → ((j : ℕ) → k ≤ j → bit j y ≡ bit j x) → after qs k y ≤ after qs k x → mass qs y ≤ mass qs x
  upto k le same less = let e : (length qs - k) + k ≡ length qs = omega arith in rw e at (after_grows k (length qs - k) same less)

-- a failed part where a sound one was
half : (q s : ℕ) → q ≤ 500000 → fall q s ≤ s - fall q s
half q s h = omega (arith, mul-le-mul_left s h)

-- the failure of the later of two parts where it is the less likely one
later : (q q' s a b : ℕ) → b + a ≡ s → a ≡ fall q s → q' ≤ q → fall q' b ≤ a - fall q' a
later q q' s a b e a-is le = omega (arith, ap (λ n. n * q') e, mul-le-mul_left s le)

module _ (s : Sheet) (x y : ℕ) where
  abbrev qs : List ℕ
  qs = figures_of s

  exact_add : (t : ℕ) → Added (count_of s) x y t → mass qs y ≤ mass qs x
  unfolding after
  exact_add t a =
      let q = slice_index_or qs t 0 in
      let same : after qs t y ≡ after qs t x = after_same qs t y x (λ k h. a.others k (λ e. omega arith)) in
      let y-is : after qs (suc t) y ≡ fall q (after qs t x) = ap₂ (goes_on q) same a.gained in
      let x-is : after qs (suc t) x ≡ after qs t x - fall q (after qs t x) = ap (goes_on q (after qs t x)) a.lacked in
      upto qs (figures_fine s) x y (suc t) (omega (arith, a.room, count_is s)) (λ j le. a.others j (λ e. omega arith))
      (omega (arith, y-is, x-is, half q (after qs t x) (figures_half s t)))

  exact_move : (m : ℕ) → Moved (count_of s) x y m → mass qs y ≤ mass qs x
  unfolding after
  exact_move m a =
      let q = slice_index_or qs m 0 in
      let q' = slice_index_or qs (suc m) 0 in
      let r = after qs m x in
      let same : after qs m y ≡ r = after_same qs m y x (λ k h. a.others k (λ e. omega arith) (λ e. omega arith)) in
      let y-is : after qs (suc (suc m)) y ≡ fall q' (r - fall q r) = ap₂ (goes_on q') (ap₂ (goes_on q) same a.lost) a.gained in
      let x-is : after qs (suc (suc m)) x ≡ fall q r - fall q' (fall q r) = ap₂ (goes_on q') (ap (goes_on q r) a.had) a.lacked in
      let whole : r - fall q r + fall q r ≡ r = omega (arith, fall_le q r (figures_fine s m)) in
      upto qs (figures_fine s) x y (suc (suc m)) (omega (arith, a.room, count_is s)) (λ j le. a.others j (λ e. omega arith) (λ e. omega arith))
      (omega (arith, y-is, x-is, later q q' r (fall q r) (r - fall q r) whole refl (figures_fall s m a.room)))

pub add_law : (s : Sheet) (x y : ℕ) → x < 2 ^ count_of s → add_step (count_of s) x ≡ y ∷ [] → heavier (figures_of s) y x ≡ false
add_law s x y on_sheet step = le-ltb _ _ (exact_add s x y (top (count_of s) x) (added_bits (count_of s) x y on_sheet step))

pub move_law : (s : Sheet) (x y : ℕ) → x < 2 ^ count_of s → move_step (count_of s) x ≡ y ∷ [] → heavier (figures_of s) y x ≡ false
move_law s x y on_sheet step = let found = moved_bits (count_of s) x y on_sheet step in le-ltb _ _ (exact_move s x y found.0 found.1)
