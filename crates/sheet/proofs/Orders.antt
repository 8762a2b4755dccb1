-- Lists of numbers that never fall: their last number, and one number more. Assumes nothing.
use Rattle.std.proofs.Common.{◌≡◌, ℕ, suc, ◌-◌, ◌≤◌, Bool, true, false, cond, leb, List, [], ◌∷◌, ◌++◌, map, length, slice_get, unwrap_or, option_map, Some, refl, arith, le-leb}
use Rattle.std.proofs.lemmas.List.{map_push}
use Rattle.std.proofs.lemmas.Bool.{and_parts, and_from}
use Rattle.sheet.specs.Orders.{never_falls, never_falls_from, last_or}

-- of numbers f y, the last one is that of the last y
last_some : {X : Type 0} (f : X → ℕ) (x : X) (xs : List X) (d : ℕ) → option_map f (slice_get (x ∷ xs) (length xs)) ≡ Some (last_or d (map f (x ∷ xs)))
last_some f x [] d = refl
last_some f x (y ∷ ys) d = last_some f y ys (f x)

-- the last of the numbers f x of a list, d where there is none
pub last_map : {X : Type 0} (f : X → ℕ) (xs : List X) (d : ℕ) → last_or d (map f xs) ≡ unwrap_or (option_map f (slice_get xs (length xs - 1))) d
last_map f [] d = refl
last_map f (x ∷ xs) d =
    let place : suc (length xs) - 1 ≡ length xs = omega arith in
    rw (place, last_some f x xs d) refl

-- no number falls where one comes that is not below the last
pub one_more : (low : ℕ) (xs : List ℕ) (x : ℕ) → never_falls_from low xs ≡ true → last_or low xs ≤ x → never_falls_from low (xs ++ x ∷ []) ≡ true
one_more low [] x t h = and_from _ _ (le-leb low x h) refl
one_more low (y ∷ ys) x t h =
    let p = and_parts (leb low y) (never_falls_from y ys) t in
    and_from _ _ p.0 (one_more y ys x p.1 h)

-- the same of the numbers f x of a list that takes x or, as b says, not
pub one_more_or_not : {X : Type 0} (f : X → ℕ) (b : Bool) (xs ys : List X) (x : X) → ys ≡ cond b (xs ++ x ∷ []) xs → never_falls (map f xs) ≡ true → last_or 0 (map f xs) ≤ f x → never_falls (map f ys) ≡ true
one_more_or_not f true xs ys x e t h = rw (e, map_push f xs x) (one_more 0 (map f xs) (f x) t h)
one_more_or_not f false xs ys x e t h = rw e t
