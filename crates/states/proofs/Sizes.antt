-- How many of the lowest n places of a number hold a 1. Assumes nothing.
use Rattle.std.proofs.Common.{◌≡◌, ℕ, zero, suc, ◌+◌, ◌<◌, ◌≤◌, Bool, true, false, cond, sym, refl, ap, ◌∙◌, ⊎_elim, arith}
use Rattle.std.proofs.lemmas.Bool.{cases_lt}
use Rattle.states.specs.Sets.{bit, size}

-- every place of s that holds a 1 does so in t
abbrev pub Inside : ℕ → ℕ → Type 0
Inside s t = (k : ℕ) → bit k s ≡ true → bit k t ≡ true

one_at_most : (b : Bool) → cond b 1 0 ≤ 1
one_at_most true = omega arith
one_at_most false = omega arith

pub size_le : (n s : ℕ) → size n s ≤ n
unfolding size
size_le zero s = omega arith
size_le (suc n) s = omega (arith, size_le n s, one_at_most (bit n s))

place_mono : (a b : Bool) → (a ≡ true → b ≡ true) → cond a 1 0 ≤ cond b 1 0
place_mono true b h = let e : b ≡ true = h refl in rw e (omega arith)
place_mono false b h = omega arith

pub size_mono : (n s t : ℕ) → Inside s t → size n s ≤ size n t
unfolding size
size_mono zero s t w = omega arith
size_mono (suc n) s t w = omega (arith, size_mono n s t w, place_mono (bit n s) (bit n t) (w n))

-- a mast more sizes
pub size_more : (n s t k : ℕ) → Inside s t → k < n → bit k s ≡ false → bit k t ≡ true → size n s < size n t
unfolding size
size_more zero s t k w h lacks has = absurd (omega arith)
size_more (suc n) s t k w h lacks has =
    ⊎_elim (λ inside. omega (arith, size_more n s t k w inside lacks has, place_mono (bit n s) (bit n t) (w n))) (λ top. highest (omega arith)) (cases_lt k n)
  where
    highest : k ≡ n → cond (bit n s) 1 0 + size n s < cond (bit n t) 1 0 + size n t
    highest e =
        let l : bit n s ≡ false = ap (λ i. bit i s) (sym e) ∙ lacks in
        let r : bit n t ≡ true = ap (λ i. bit i t) (sym e) ∙ has in
        rw (l, r) (omega (arith, size_mono n s t w))
