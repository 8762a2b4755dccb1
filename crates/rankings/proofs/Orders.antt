-- 'Ahead' is a strict total order on the states of a sheet, for every ranking that keeps its laws. Assumes nothing.
use Rattle.std.proofs.Common.{◌≡◌, ℕ, ◌^◌, ◌<◌, ◌≤◌, Bool, true, false, not, ◌&&◌, ◌||◌, ltb, eqb, cond, ◌⊎◌, sym, refl, ap, ◌∙◌, inl, inr, ⊎_elim, arith, ltb-true, le-ltb, lt-ltb}
use borrow.Author.Tests.{clash}
use Rattle.std.proofs.lemmas.Bool.{cases_Bool, or_cases, or_left, or_right, and_parts, and_from, not-true, not_from_false, cases_lt}
use Rattle.std.specs.declared.cmp.Ordering.{Ordering}
use Rattle.std.specs.declared.cmp.Ordering.TheVariants.{Less, Equal, Greater}
use Rattle.std.specs.Ordering.{is_lt, ordering_then, nat_cmp}
use Rattle.rankings.specs.Orders.{OneWay, Through, rank_of, ranked, ComparedAsRanked, ahead, ahead_by_keys, StrictOrder}

-- what decides which is ahead: the rank, and where they tie the numbers
by_rank : (a b t : Bool) (c : Ordering) → is_lt c ≡ t → is_lt (ordering_then (rank_of a b) c) ≡ (a || (not b && t))
by_rank true b t c e = refl
by_rank false true t c e = refl
by_rank false false t c e = e

less_by : (t e : Bool) → is_lt (cond t Less (cond e Equal Greater)) ≡ t
less_by true e = refl
less_by false true = refl
less_by false false = refl

-- how two states rank, and where they tie their numbers, say which is ahead
pub rank_says : (o : ℕ → ℕ → Bool) (x y : ℕ) → is_lt (ordering_then (ranked o x y) (nat_cmp x y)) ≡ ahead o x y
rank_says o x y = by_rank (o x y) (o y x) (ltb x y) (nat_cmp x y) (less_by (ltb x y) (eqb x y))

-- the keys of two states of the sheet say which is ahead
pub keys_say : {Key : Type 0} (n : ℕ) (o : ℕ → ℕ → Bool) (keyed : ℕ → Key) (compared : Key → Key → Ordering) → ComparedAsRanked n o keyed compared
    → (x y : ℕ) → x < 2 ^ n → y < 2 ^ n → ahead_by_keys compared x (keyed x) y (keyed y) ≡ ahead o x y
keys_say n o keyed compared ranks x y hx hy = ap (λ r. is_lt (ordering_then r (nat_cmp x y))) (ranks x y hx hy) ∙ rank_says o x y

module _ (n : ℕ) (o : ℕ → ℕ → Bool) (one_way : OneWay n o) (through : Through n o) where
  -- x is ahead of y: y does not outrank x, and x outranks y or has the smaller number
  record Ahead (x y : ℕ) : Type 0 where
    over : o y x ≡ false
    by : (o x y ≡ true) ⊎ (x < y)

  from : (x y : ℕ) → x < 2 ^ n → y < 2 ^ n → ahead o x y ≡ true → Ahead x y
  from x y hx hy t =
      ⊎_elim (λ a. record { over = one_way x y hx hy a; by = inl a })
      (λ b. let both = and_parts (not (o y x)) (ltb x y) b in record { over = not-true _ both.0; by = inr (ltb-true x y both.1) })
      (or_cases (o x y) (not (o y x) && ltb x y) t)

  to : (x y : ℕ) → Ahead x y → ahead o x y ≡ true
  to x y a =
      ⊎_elim (λ h. or_left (o x y) _ h) (λ h. or_right (o x y) _ (and_from _ _ (not_from_false _ a.over) (lt-ltb x y h))) a.by

  -- where what is false would lead to a contradiction, it is true
  otherwise : (b c : Bool) → c ≡ true → (b ≡ false → c ≡ false) → b ≡ true
  otherwise true c t f = refl
  otherwise false c t f = absurd (clash (sym (f refl) ∙ t))

  joined : (x y z : ℕ) → x < 2 ^ n → y < 2 ^ n → z < 2 ^ n → Ahead x y → Ahead y z → Ahead x z
  joined x y z hx hy hz a b = record {
    over = through z y x hz hy hx b.over a.over;
    by = ⊎_elim
        (λ h. inl (otherwise (o x z) (o x y) h (λ f. through x z y hx hz hy f b.over)))
        (λ h. ⊎_elim (λ k. inl (otherwise (o x z) (o y z) k (λ f. through y x z hy hx hz a.over f))) (λ k. inr (omega arith)) b.by)
        a.by;
  }

  itself : (x : ℕ) → x < 2 ^ n → ahead o x x ≡ false
  itself x hx = ⊎_elim (λ t. absurd (never t)) (λ f. f) (cases_Bool (ahead o x x))
    where
      never : ahead o x x ≡ true → ⊥
      never t =
          let a = from x x hx hx t in
          ⊎_elim (λ h. clash (sym a.over ∙ h)) (λ h. omega arith) a.by

  one_of_two : (x y : ℕ) → x < 2 ^ n → y < 2 ^ n → (x ≡ y → ⊥) → ahead o x y ≡ not (ahead o y x)
  one_of_two x y hx hy ne = go (o x y) (o y x) (one_way x y hx hy)
    where
      numbers : ltb x y ≡ not (ltb y x)
      numbers = ⊎_elim (λ (h : x < y). rw (lt-ltb x y h, le-ltb y x (omega arith))) (λ (h : y ≤ x). rw (le-ltb x y h, lt-ltb y x (omega arith))) (cases_lt x y)

      go : (a b : Bool) → (a ≡ true → b ≡ false) → (a || (not b && ltb x y)) ≡ not (b || (not a && ltb y x))
      go true true f = absurd (clash (sym (f refl)))
      go true false f = refl
      go false true f = refl
      go false false f = numbers

  pub strict_order : StrictOrder n (ahead o)
  strict_order = record {
    not_itself = itself;
    passes_on = λ x y z hx hy hz a b. to x z (joined x y z hx hy hz (from x y hx hy a) (from y z hy hz b));
    one_of_two = one_of_two;
  }
