-- Sums over the numbers below m, and over lists. Assumes nothing.
use Rattle.std.proofs.Common.{◌≡◌, ℕ, zero, suc, ◌+◌, ◌-◌, ◌<◌, ◌≤◌, List, [], ◌∷◌, refl, ap, ◌∙◌, ap₂, ⊎_elim, arith}
use Rattle.std.proofs.lemmas.Bool.{cases_eq}
use Rattle.states.specs.Sums.{sum_below, sum_of}

pub sum_same : (m : ℕ) (f g : ℕ → ℕ) → ((x : ℕ) → x < m → f x ≡ g x) → sum_below m f ≡ sum_below m g
unfolding sum_below
sum_same zero f g same = refl
sum_same (suc m) f g same = ap₂ (◌+◌) (same m (omega arith)) (sum_same m f g (λ x h. same x (omega arith)))

pub sum_add : (m : ℕ) (f g : ℕ → ℕ) → sum_below m (λ x. f x + g x) ≡ sum_below m f + sum_below m g
unfolding sum_below
sum_add zero f g = refl
sum_add (suc m) f g = omega (arith, sum_add m f g)

-- the sum below a + b in two parts
pub sum_split : (a b : ℕ) (h : ℕ → ℕ) → sum_below (a + b) h ≡ sum_below a h + sum_below b (λ x. h (a + x))
unfolding sum_below
sum_split a zero h = let e : a + zero ≡ a = omega arith in rw e (omega arith)
sum_split a (suc b) h = let e : a + suc b ≡ suc (a + b) = omega arith in rw e (omega (arith, sum_split a b h))

pub sum_nothing : (m : ℕ) (h : ℕ → ℕ) → ((x : ℕ) → x < m → h x ≡ 0) → sum_below m h ≡ 0
unfolding sum_below
sum_nothing zero h none = refl
sum_nothing (suc m) h none = omega (arith, none m (omega arith), sum_nothing m h (λ x l. none x (omega arith)))

-- a sum with one term that is not 0
pub sum_one : (m y : ℕ) (h : ℕ → ℕ) → y < m → ((x : ℕ) → x < m → (x ≡ y → ⊥) → h x ≡ 0) → sum_below m h ≡ h y
unfolding sum_below
sum_one zero y h l rest = absurd (omega arith)
sum_one (suc m) y h l rest =
    ⊎_elim here (λ ne. below ne (sum_one m y h (omega arith) (λ x k. rest x (omega arith)))) (cases_eq m y)
  where
    here : m ≡ y → sum_below (suc m) h ≡ h y
    here e = omega (arith, ap h e, sum_nothing m h (λ x k. rest x (omega arith) (λ same. omega arith)))

    below : (m ≡ y → ⊥) → sum_below m h ≡ h y → sum_below (suc m) h ≡ h y
    below ne e = omega (arith, rest m (omega arith) ne, e)

pub sum_grows : (a b : ℕ) (h : ℕ → ℕ) → a ≤ b → sum_below a h ≤ sum_below b h
sum_grows a b h le = let e : a + (b - a) ≡ b = omega arith in omega (arith, rw e at (sum_split a (b - a) h))

-- the numbers below m, and m
pub sum_more : (m : ℕ) (h : ℕ → ℕ) → sum_below m h + h m ≡ sum_below (m + 1) h
unfolding sum_below
sum_more m h = let e : m + 1 ≡ suc m = omega arith in rw e (omega arith)

pub sum_none : (h : ℕ → ℕ) → 0 ≡ sum_below 0 h
unfolding sum_below
sum_none h = refl

-- sums below m of sums over a list, the other way round
pub sum_swap : (m : ℕ) (f : ℕ → ℕ → ℕ) (zs : List ℕ) → sum_below m (λ y. sum_of (λ z. f z y) zs) ≡ sum_of (λ z. sum_below m (f z)) zs
sum_swap m f [] = sum_nothing m (λ y. 0) (λ y h. refl)
sum_swap m f (z ∷ zs) = sum_add m (f z) (λ y. sum_of (λ w. f w y) zs) ∙ ap (λ k. sum_below m (f z) + k) (sum_swap m f zs)
