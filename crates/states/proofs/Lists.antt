-- Lists of numbers as collections, and their sums. Assumes nothing.
use Rattle.std.proofs.Common.{◌≡◌, ℕ, ◌+◌, ◌-◌, ◌*◌, ◌≤◌, cond, eqb, ◌⊎◌, List, [], ◌∷◌, ◌++◌, length, sym, refl, ap, ◌∙◌, subst, ap₂, inl, inr, ⊎_elim, arith}
use Rattle.std.specs.List.{AllByRecursion}
use Rattle.std.proofs.lemmas.List.{nil_from_length}
use Rattle.std.proofs.ByRecursion.{All-push}
use Rattle.std.proofs.lemmas.Bool.{cases_eq, cases_lt, eq-eqb, ne_eqb, cond-true, cond-false, cond_both}
use Rattle.states.specs.Lists.{In, Different, Pairwise, Same}
use Rattle.states.specs.Sums.{sum_of}

-- members
pub in_append_left : (xs ys : List ℕ) (y : ℕ) → In y xs → In y (xs ++ ys)
in_append_left [] ys y i = absurd i
in_append_left (x ∷ xs) ys y (inl e) = inl e
in_append_left (x ∷ xs) ys y (inr i) = inr (in_append_left xs ys y i)

pub in_append_right : (xs ys : List ℕ) (y : ℕ) → In y ys → In y (xs ++ ys)
in_append_right [] ys y i = i
in_append_right (x ∷ xs) ys y i = inr (in_append_right xs ys y i)

pub in_append_cases : (xs ys : List ℕ) (y : ℕ) → In y (xs ++ ys) → In y xs ⊎ In y ys
in_append_cases [] ys y i = inr i
in_append_cases (x ∷ xs) ys y (inl e) = inl (inl e)
in_append_cases (x ∷ xs) ys y (inr i) = ⊎_elim (λ a. inl (inr a)) inr (in_append_cases xs ys y i)

pub all_in : (P : ℕ → Type 0) (xs : List ℕ) (y : ℕ) → AllByRecursion P xs → In y xs → P y
all_in P [] y all i = absurd i
all_in P (x ∷ xs) y all (inl e) = subst P e all.0
all_in P (x ∷ xs) y all (inr i) = all_in P xs y all.1 i

pub all_from_in : (P : ℕ → Type 0) (xs : List ℕ) → ((y : ℕ) → In y xs → P y) → AllByRecursion P xs
all_from_in P [] each = tt
all_from_in P (x ∷ xs) each = (each x (inl refl), all_from_in P xs (λ y i. each y (inr i)))

pub pairwise_append : (R : ℕ → ℕ → Type 0) (xs : List ℕ) (y : ℕ) → Pairwise R xs → AllByRecursion (λ x. R x y) xs → Pairwise R (xs ++ y ∷ [])
pairwise_append R [] y pairs all = (tt, tt)
pairwise_append R (x ∷ xs) y pairs all = (All-push (R x) xs y pairs.0 all.0, pairwise_append R xs y pairs.1 all.1)

-- sums over a list
pub sum_of_append : (f : ℕ → ℕ) (xs ys : List ℕ) → sum_of f (xs ++ ys) ≡ sum_of f xs + sum_of f ys
sum_of_append f [] ys = omega arith
sum_of_append f (x ∷ xs) ys = omega (arith, sum_of_append f xs ys)

pub sum_of_same : (f g : ℕ → ℕ) (xs : List ℕ) → ((x : ℕ) → In x xs → f x ≡ g x) → sum_of f xs ≡ sum_of g xs
sum_of_same f g [] same = refl
sum_of_same f g (x ∷ xs) same = omega (arith, same x (inl refl), sum_of_same f g xs (λ y i. same y (inr i)))

pub sum_of_le : (f g : ℕ → ℕ) (xs : List ℕ) → ((x : ℕ) → In x xs → f x ≤ g x) → sum_of f xs ≤ sum_of g xs
sum_of_le f g [] le = omega arith
sum_of_le f g (x ∷ xs) le = omega (arith, le x (inl refl), sum_of_le f g xs (λ y i. le y (inr i)))

pub sum_of_add : (f g : ℕ → ℕ) (xs : List ℕ) → sum_of (λ x. f x + g x) xs ≡ sum_of f xs + sum_of g xs
sum_of_add f g [] = refl
sum_of_add f g (x ∷ xs) = omega (arith, sum_of_add f g xs)

-- the list without the first y in it
abbrev without : ℕ → List ℕ → List ℕ
without y [] = []
without y (x ∷ xs) = cond (eqb x y) xs (x ∷ without y xs)

without_sum : (g : ℕ → ℕ) (y : ℕ) (hs : List ℕ) → In y hs → sum_of g hs ≡ g y + sum_of g (without y hs)
without_sum g y [] i = absurd i
without_sum g y (x ∷ xs) i = ⊎_elim here (λ ne. there ne (without_sum g y xs)) (cases_eq x y)
  where
    here : x ≡ y → g x + sum_of g xs ≡ g y + sum_of g (cond (eqb x y) xs (x ∷ without y xs))
    here e = rw (cond-true (eqb x y) xs (x ∷ without y xs) (eq-eqb x y e)) (ap (λ w. g w + sum_of g xs) e)

    there : (x ≡ y → ⊥) → (In y xs → sum_of g xs ≡ g y + sum_of g (without y xs)) → g x + sum_of g xs ≡ g y + sum_of g (cond (eqb x y) xs (x ∷ without y xs))
    there ne ih = rw (cond-false (eqb x y) xs (x ∷ without y xs) (ne_eqb x y ne)) (omega (arith, ih (⊎_elim (λ e. absurd (ne e)) (λ j. j) i)))

in_without : (y z : ℕ) (hs : List ℕ) → (z ≡ y → ⊥) → In z hs → In z (without y hs)
in_without y z [] other i = absurd i
in_without y z (x ∷ xs) other i = ⊎_elim here (λ ne. there ne (in_without y z xs other)) (cases_eq x y)
  where
    here : x ≡ y → In z (cond (eqb x y) xs (x ∷ without y xs))
    here e = rw (cond-true (eqb x y) xs (x ∷ without y xs) (eq-eqb x y e)) (⊎_elim (λ s. absurd (other (sym s ∙ e))) (λ j. j) i)

    there : (x ≡ y → ⊥) → (In z xs → In z (without y xs)) → In z (cond (eqb x y) xs (x ∷ without y xs))
    there ne ih = rw (cond-false (eqb x y) xs (x ∷ without y xs) (ne_eqb x y ne)) (⊎_elim inl (λ j. inr (ih j)) i)

-- different numbers, all of them in hs or of value 0, sum to no more than hs
pub sub_sum : (g : ℕ → ℕ) (hs zs : List ℕ) → Different zs → AllByRecursion (λ z. In z hs ⊎ (g z ≡ 0)) zs → sum_of g zs ≤ sum_of g hs
sub_sum g hs [] diff all = omega arith
sub_sum g hs (z ∷ zs) diff all = ⊎_elim (λ i. found i (sub_sum g (without z hs) zs diff.1 left)) (λ e. none e (sub_sum g hs zs diff.1 all.1)) all.0
  where
    step : (w : ℕ) → In w zs → In w (without z hs) ⊎ (g w ≡ 0)
    step w k = ⊎_elim (λ j. inl (in_without z w hs (λ e. diff.0 (subst (λ v. In v zs) e k)) j)) inr (all_in (λ v. In v hs ⊎ (g v ≡ 0)) zs w all.1 k)

    left : AllByRecursion (λ w. In w (without z hs) ⊎ (g w ≡ 0)) zs
    left = all_from_in (λ w. In w (without z hs) ⊎ (g w ≡ 0)) zs step

    found : In z hs → sum_of g zs ≤ sum_of g (without z hs) → g z + sum_of g zs ≤ sum_of g hs
    found i ih = omega (arith, without_sum g z hs i)

    none : g z ≡ 0 → sum_of g zs ≤ sum_of g hs → g z + sum_of g zs ≤ sum_of g hs
    none e ih = omega arith

sum_over : (f : ℕ → ℕ) (m : ℕ) (zs : List ℕ) → sum_of f zs ≤ length zs * m + sum_of (λ x. f x - m) zs
sum_over f m [] = omega arith
sum_over f m (z ∷ zs) = omega (arith, sum_over f m zs)

sum_from : (f : ℕ → ℕ) (m : ℕ) (hs : List ℕ) → AllByRecursion (λ h. m ≤ f h) hs → sum_of f hs ≡ length hs * m + sum_of (λ x. f x - m) hs
sum_from f m [] all = omega arith
sum_from f m (h ∷ hs) all = omega (arith, all.0, sum_from f m hs all.1)

-- where each of hs has m or more and every other number at most m, as many different numbers sum to no more than hs
pub best_sum : (f : ℕ → ℕ) (m : ℕ) (hs zs : List ℕ) → Different zs → length zs ≡ length hs → AllByRecursion (λ h. m ≤ f h) hs → AllByRecursion (λ z. In z hs ⊎ (f z ≤ m)) zs → sum_of f zs ≤ sum_of f hs
best_sum f m hs zs diff many high rest =
    let over = sum_over f m zs in
    let from = sum_from f m hs high in
    let more = sub_sum (λ x. f x - m) hs zs diff (all_from_in _ zs low) in
    omega (arith, ap (λ n. n * m) many)
  where
    low : (z : ℕ) → In z zs → In z hs ⊎ (f z - m ≡ 0)
    low z k = ⊎_elim inl (λ le. inr (omega arith)) (all_in (λ w. In w hs ⊎ (f w ≤ m)) zs z rest k)

-- how often a number stands in a list
pub in_count : (xs : List ℕ) (y : ℕ) → In y xs → 1 ≤ sum_of (λ x. cond (eqb x y) 1 0) xs
in_count [] y i = absurd i
in_count (x ∷ xs) y (inl e) = omega (arith, cond-true {A = ℕ} (eqb x y) 1 0 (eq-eqb x y e))
in_count (x ∷ xs) y (inr i) = omega (arith, in_count xs y i)

pub count_in : (xs : List ℕ) (y : ℕ) → 1 ≤ sum_of (λ x. cond (eqb x y) 1 0) xs → In y xs
count_in [] y some = omega arith
count_in (x ∷ xs) y some = ⊎_elim inl (λ ne. inr (count_in xs y (omega (arith, cond-false {A = ℕ} (eqb x y) 1 0 (ne_eqb x y ne))))) (cases_eq x y)

pub different_count : (xs : List ℕ) → Different xs → (y : ℕ) → sum_of (λ x. cond (eqb x y) 1 0) xs ≤ 1
different_count [] diff y = omega arith
different_count (x ∷ xs) diff y = ⊎_elim here (λ ne. there ne (different_count xs diff.1 y)) (cases_eq x y)
  where
    one : cond (eqb x y) 1 0 ≤ 1
    one = cond_both {A = ℕ} (eqb x y) 1 0 (λ n. n ≤ 1) (λ e. omega arith) (λ e. omega arith)

    here : x ≡ y → cond (eqb x y) 1 0 + sum_of (λ v. cond (eqb v y) 1 0) xs ≤ 1
    here e = ⊎_elim (λ some. absurd (diff.0 (subst (λ v. In v xs) (sym e) (count_in xs y some)))) (λ none. omega (arith, one)) (cases_lt 0 (sum_of (λ v. cond (eqb v y) 1 0) xs))

    there : (x ≡ y → ⊥) → sum_of (λ v. cond (eqb v y) 1 0) xs ≤ 1 → cond (eqb x y) 1 0 + sum_of (λ v. cond (eqb v y) 1 0) xs ≤ 1
    there ne ih = omega (arith, cond-false {A = ℕ} (eqb x y) 1 0 (ne_eqb x y ne))

pub count_different : (xs : List ℕ) → ((y : ℕ) → sum_of (λ x. cond (eqb x y) 1 0) xs ≤ 1) → Different xs
count_different [] once = tt
count_different (x ∷ xs) once = (λ i. omega (arith, once x, in_count xs x i, cond-true {A = ℕ} (eqb x x) 1 0 (eq-eqb x x refl)), count_different xs (λ y. omega (arith, once y)))

-- equal as collections
pub same_refl : (xs : List ℕ) → Same xs xs
same_refl xs f = refl

pub same_sym : (xs ys : List ℕ) → Same xs ys → Same ys xs
same_sym xs ys same f = sym (same f)

pub same_trans : (xs ys zs : List ℕ) → Same xs ys → Same ys zs → Same xs zs
same_trans xs ys zs one two f = one f ∙ two f

pub same_append_left : (zs xs ys : List ℕ) → Same xs ys → Same (zs ++ xs) (zs ++ ys)
same_append_left zs xs ys same f = omega (arith, sum_of_append f zs xs, sum_of_append f zs ys, same f)

pub same_append_right : (xs ys zs : List ℕ) → Same xs ys → Same (xs ++ zs) (ys ++ zs)
same_append_right xs ys zs same f = omega (arith, sum_of_append f xs zs, sum_of_append f ys zs, same f)

pub same_in : (xs ys : List ℕ) → Same xs ys → (y : ℕ) → In y xs → In y ys
same_in xs ys same y i = count_in ys y (omega (arith, in_count xs y i, same (λ x. cond (eqb x y) 1 0)))

pub same_all : (P : ℕ → Type 0) (xs ys : List ℕ) → Same xs ys → AllByRecursion P xs → AllByRecursion P ys
same_all P xs ys same all = all_from_in P ys (λ y i. all_in P xs y all (same_in ys xs (same_sym xs ys same) y i))

pub same_different : (xs ys : List ℕ) → Same xs ys → Different xs → Different ys
same_different xs ys same diff = count_different ys (λ y. omega (arith, different_count xs diff y, same (λ x. cond (eqb x y) 1 0)))

length_sum : (xs : List ℕ) → length xs ≡ sum_of (λ x. 1) xs
length_sum [] = refl
length_sum (x ∷ xs) = omega (arith, length_sum xs)

pub same_length : (xs ys : List ℕ) → Same xs ys → length xs ≡ length ys
same_length xs ys same = length_sum xs ∙ same (λ x. 1) ∙ sym (length_sum ys)

pub same_nil : (xs : List ℕ) → Same xs [] → xs ≡ []
same_nil xs same = nil_from_length xs (same_length xs [] same)

pub same_one : (xs : List ℕ) (x : ℕ) → Same xs (x ∷ []) → xs ≡ x ∷ []
same_one [] x same = absurd (omega (arith, same_length [] (x ∷ []) same))
same_one (y ∷ ys) x same =
    let rest : ys ≡ [] = nil_from_length ys (omega (arith, same_length (y ∷ ys) (x ∷ []) same)) in
    let head : y ≡ x = omega (arith, same (λ v. v), ap (sum_of (λ v. v)) rest) in
    ap₂ (◌∷◌) head rest

-- of a list of different members no front shares one with the rest
pub different_apart : (xs ys : List ℕ) → Different (xs ++ ys) → (z : ℕ) → In z xs → In z ys → ⊥
different_apart [] ys diff z i j = i
different_apart (x ∷ xs) ys diff z (inl e) j = diff.0 (in_append_right xs ys x (subst (λ v. In v ys) (sym e) j))
different_apart (x ∷ xs) ys diff z (inr i) j = different_apart xs ys diff.1 z i j

pub different_rest : (xs ys : List ℕ) → Different (xs ++ ys) → Different ys
different_rest [] ys diff = diff
different_rest (x ∷ xs) ys diff = different_rest xs ys diff.1
