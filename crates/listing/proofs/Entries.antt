-- The entries of a queue one by one, and what stays true as one is put in or taken away. Assumes nothing.
use Rattle.std.proofs.Common.{◌≡◌, ℕ, zero, suc, ◌+◌, ◌-◌, ◌^◌, ◌<◌, ◌≤◌, Bool, true, false, not, ltb, ◌⊎◌, List, [], ◌∷◌, ◌++◌, map, length, get_or, take, drop, sym, refl, ap, ◌∙◌, subst, ap₂, inl, inr, ⊎_elim, arith, take-append-drop, ltb-true, lt-ltb, mod-eq_of_lt, MatchOption}
use borrow.Author.Tests.{clash}
use Rattle.std.proofs.Math.Bool.{Bool-set}
use Rattle.std.proofs.Math.Logic.{∥∥₁_elim, ∥∥₁_map}
use Rattle.std.specs.List.{insert, slice_get}
use Rattle.std.specs.List.Sorted.{IsPartitionPoint}
use Rattle.std.proofs.lemmas.List.{get_or-map, length-map, map-append, take-map, drop-map, take_more, take_all, take_at, nil_from_length, same_from_push, length_push}
use Rattle.std.proofs.lemmas.Bool.{and_parts, and_from, cases_Bool, cases_lt}
use Rattle.std.proofs.lemmas.Bool.Decides.{eqb_tells}
use Rattle.std.proofs.lemmas.Option.{slice_get_cases}
use Rattle.sheet.specs.Parts.{count_of}
use Rattle.sheet.specs.declared.sealed.Sheet.{Sheet}
use Rattle.states.specs.Lists.{In, Same}
use Rattle.states.specs.Masses.{mass}
use Rattle.states.specs.Steps.{low}
use Rattle.states.specs.Sums.{sum_of}
use Rattle.states.proofs.Lists.{in_append_right, in_append_cases, sum_of_append}
use Rattle.rankings.specs.Orders.{StrictOrder}
use Rattle.listing.specs.Waiters.{states_of, masses_of, all_below, Keyed, InOrder, IsForemost}
use Rattle.listing.specs.declared.waiting.Waiting.{Waiting}
use Rattle.listing.proofs.Sorting.{in_front, in_at, all_take, all_drop, pairwise_take, pairwise_at, pairwise_last, pairwise_insert, same_inserted}

-- numbers below a bound
pub below_all : (m : ℕ) (xs : List ℕ) → all_below m xs ≡ true → (y : ℕ) → In y xs → y < m
below_all m [] t y i = absurd i
below_all m (x ∷ xs) t y (inl e) = subst (λ v. v < m) e (ltb-true x m (and_parts (ltb x m) (all_below m xs) t).0)
below_all m (x ∷ xs) t y (inr i) = below_all m xs (and_parts (ltb x m) (all_below m xs) t).1 y i

all_below_from : (m : ℕ) (xs : List ℕ) → ((y : ℕ) → In y xs → y < m) → all_below m xs ≡ true
all_below_from m [] f = refl
all_below_from m (x ∷ xs) f = and_from _ _ (lt-ltb x m (f x (inl refl))) (all_below_from m xs (λ y i. f y (inr i)))

map_inserted : {X Y : Type 0} (f : X → Y) (xs : List X) (i : ℕ) (x : X) → map f (insert xs i x) ≡ insert (map f xs) i (f x)
map_inserted f xs i x =
    map-append f (take i xs) (x ∷ drop i xs) ∙ ap₂ (λ a b. a ++ f x ∷ b) (sym (take-map f i xs)) (sym (drop-map f i xs))

in_inserted : (xs : List ℕ) (i x y : ℕ) → In y (insert xs i x) → (x ≡ y) ⊎ In y xs
in_inserted xs i x y j = ⊎_elim (λ a. inr (in_front xs i y a)) rest (in_append_cases (take i xs) (x ∷ drop i xs) y j)
  where
    rest : In y (x ∷ drop i xs) → (x ≡ y) ⊎ In y xs
    rest (inl e) = inl e
    rest (inr a) = inr (subst (λ v. In y v) (take-append-drop i xs) (in_append_right (take i xs) (drop i xs) y a))

-- states in order, the foremost last, and one more of the sheet
module _ (n : ℕ) (before : ℕ → ℕ → Bool) (order : StrictOrder n before) (zs : List ℕ) (on : all_below (2 ^ n) zs ≡ true) (sorted : InOrder before zs) (x : ℕ) (x_on : x < 2 ^ n) where
  at_on : (i : ℕ) → i < length zs → get_or zs i 0 < 2 ^ n
  at_on i h = below_all (2 ^ n) zs on (get_or zs i 0) (in_at zs i h)

  -- what it is ahead of is not ahead of it
  behind : (y : ℕ) → y < 2 ^ n → before x y ≡ true → before y x ≡ false
  behind y y_on a =
      ⊎_elim (λ t. absurd (clash (sym (order.not_itself x x_on) ∙ order.passes_on x y x x_on y_on x_on a t))) (λ f. f) (cases_Bool (before y x))

  -- whatever stands before a state that it is ahead of, it is ahead of too
  stays_ahead : (i j : ℕ) → i ≤ j → j < length zs → before x (get_or zs j 0) ≡ true → before x (get_or zs i 0) ≡ true
  stays_ahead i j le h a = ⊎_elim earlier (λ ge. let same : j ≡ i = omega arith in subst (λ k. before x (get_or zs k 0) ≡ true) same a) (cases_lt i j)
    where
      earlier : i < j → before x (get_or zs i 0) ≡ true
      earlier lt =
          let z = get_or zs i 0 in
          let y = get_or zs j 0 in
          let z_on = at_on i (omega arith) in
          let y_on = at_on j h in
          ⊎_elim (λ same. subst (λ v. before x v ≡ true) same.1 a)
          (λ other. order.passes_on x y z x_on y_on z_on a (order.one_of_two y z y_on z_on other.1 ∙ ap not (pairwise_at (λ p q. before p q ≡ false) zs i j sorted lt h)))
          (eqb_tells y z)

  in_order_inserted : (i : ℕ) → ((k : ℕ) → k < i → k < length zs → before x (get_or zs k 0) ≡ true) → ((k : ℕ) → i ≤ k → k < length zs → before x (get_or zs k 0) ≡ false) → InOrder before (insert zs i x)
  in_order_inserted i over under =
      pairwise_insert (λ p q. before p q ≡ false) (take i zs) (drop i zs) x (subst (InOrder before) (sym (take-append-drop i zs)) sorted)
      (all_take (λ y. before y x ≡ false) zs i (λ k h w. behind (get_or zs k 0) (at_on k w) (over k h w))) (all_drop (λ y. before x y ≡ false) zs i under)

-- where an entry of the state x is put
module _ {K : Type 0} (n : ℕ) (before : ℕ → ℕ → Bool) (keyed : ℕ → K) (order : StrictOrder n before) (ws : List (Waiting K))
    (on : all_below (2 ^ n) (states_of ws) ≡ true) (keys : ∥ Keyed keyed ws ∥₁) (sorted : InOrder before (states_of ws)) (x : ℕ) (x_on : x < 2 ^ n) where
  states_many : length (states_of ws) ≡ length ws
  states_many = length-map ws (λ e. e.state.number)

  state_at : (i : ℕ) (d : Waiting K) → i < length ws → get_or (states_of ws) i 0 ≡ (get_or ws i d).state.number
  state_at i d h = get_or-map (λ e. e.state.number) ws i d 0 h

  key_at : (i : ℕ) (d : Waiting K) → i < length ws → Keyed keyed ws → (get_or ws i d).key ≡ keyed ((get_or ws i d).state.number)
  key_at i d h is = sym (get_or-map (λ e. e.key) ws i d d.key h) ∙ ap (λ ks. get_or ks i d.key) is ∙ get_or-map (λ e. keyed e.state.number) ws i d d.key h

  -- what the entry at a place is said to be, by its key, its state is
  pub says : (i : ℕ) (e : Waiting K) (said : Bool) → i < length ws → e ≡ get_or ws i e
      → (e.state.number < 2 ^ n → e.key ≡ keyed e.state.number → said ≡ before x e.state.number) → before x (get_or (states_of ws) i 0) ≡ said
  says i e said h read tells = ∥∥₁_elim keys (Bool-set _ _) (λ is.
      let state : get_or (states_of ws) i 0 ≡ e.state.number = state_at i e h ∙ ap (λ v. v.state.number) (sym read) in
      let here : e.state.number < 2 ^ n = subst (λ v. v < 2 ^ n) state (at_on n before order (states_of ws) on sorted x x_on i (omega (arith, states_many))) in
      let key : e.key ≡ keyed e.state.number = ap (λ v. v.key) read ∙ key_at i e h is ∙ ap (λ v. keyed v.state.number) (sym read) in
      ap (before x) state ∙ sym (tells here key))

  -- its place is where it is ahead of the one before, and not of the one there
  pub place_found : (r : ℕ) → r ≤ length ws → ((j : ℕ) → suc j ≡ r → before x (get_or (states_of ws) j 0) ≡ true) → (r < length ws → before x (get_or (states_of ws) r 0) ≡ false)
      → IsPartitionPoint (λ e. before x e.state.number ≡ true) (λ e. before x e.state.number ≡ false) ws r
  place_found r fits over under = (
    λ k d low high. ap (before x) (sym (state_at k d (omega arith))) ∙ ahead_of k r (omega arith) over fits,
    λ k d low high. ap (before x) (sym (state_at k d high)) ∙ ⊎_elim
        (λ t. absurd (clash (sym (under (omega arith)) ∙ stays_ahead n before order (states_of ws) on sorted x x_on r k low (omega (arith, states_many)) t))) (λ f. f)
        (cases_Bool (before x (get_or (states_of ws) k 0))),
  )
    where
      ahead_of : (k r : ℕ) → k < r → ((j : ℕ) → suc j ≡ r → before x (get_or (states_of ws) j 0) ≡ true) → r ≤ length ws → before x (get_or (states_of ws) k 0) ≡ true
      ahead_of k zero less over fits = absurd (omega arith)
      ahead_of k (suc j) less over fits =
          stays_ahead n before order (states_of ws) on sorted x x_on k j (omega arith) (omega (arith, states_many)) (over j refl)

-- the key that is worked out for a state of the sheet, weighed on it, is the state's
pub own_key : {K : Type 0} (keyed : Sheet → ℕ → K) (s t : Sheet) (x y : ℕ) (key : K) → x < 2 ^ count_of s → t ≡ s → y ≡ x → key ≡ keyed t (low (count_of t) y) → key ≡ keyed s x
own_key keyed s t x y key on sheet state is = is ∙ ap₂ (λ u v. keyed u (low (count_of u) v)) sheet state ∙ ap (keyed s) (mod-eq_of_lt on)

-- an entry of a state of the sheet with its own mass and key was put at its place
module _ {K : Type 0} (n : ℕ) (figures : List ℕ) (keyed : ℕ → K) (before : ℕ → ℕ → Bool) (e : Waiting K) (ws ws' : List (Waiting K)) (i : ℕ) (items : ws' ≡ insert ws i e) where
  abbrev x : ℕ
  x = e.state.number

  states_are : states_of ws' ≡ insert (states_of ws) i x
  states_are = ap states_of items ∙ map_inserted (λ v. v.state.number) ws i e

  pub inserted_same : Same (states_of ws') (x ∷ states_of ws)
  inserted_same f = ap (sum_of f) states_are ∙ same_inserted (states_of ws) i x f

  pub inserted_on : x < 2 ^ n → all_below (2 ^ n) (states_of ws) ≡ true → all_below (2 ^ n) (states_of ws') ≡ true
  inserted_on x_on on =
      all_below_from (2 ^ n) _ (λ y j. ⊎_elim (λ same. subst (λ v. v < 2 ^ n) same x_on) (below_all (2 ^ n) (states_of ws) on y) (in_inserted (states_of ws) i x y (subst (λ v. In y v) states_are j)))

  pub inserted_weighed : e.mass ≡ mass figures x → masses_of ws ≡ map (mass figures) (states_of ws) → masses_of ws' ≡ map (mass figures) (states_of ws')
  inserted_weighed own weighed =
      ap masses_of items ∙ map_inserted (λ v. v.mass) ws i e ∙ ap₂ (λ ms m. insert ms i m) weighed own
      ∙ sym (map_inserted (mass figures) (states_of ws) i x) ∙ ap (map (mass figures)) (sym states_are)

  pub inserted_keyed : e.key ≡ keyed x → ∥ Keyed keyed ws ∥₁ → ∥ Keyed keyed ws' ∥₁
  inserted_keyed own keys =
      ∥∥₁_map keys (λ is. ap (map (λ v. v.key)) items ∙ map_inserted (λ v. v.key) ws i e ∙ ap₂ (λ ks k. insert ks i k) is own
      ∙ sym (map_inserted (λ v. keyed v.state.number) ws i e) ∙ ap (map (λ v. keyed v.state.number)) (sym items))

  pub inserted_in_order : StrictOrder n before → x < 2 ^ n → all_below (2 ^ n) (states_of ws) ≡ true → InOrder before (states_of ws)
      → IsPartitionPoint (λ v. before x v.state.number ≡ true) (λ v. before x v.state.number ≡ false) ws i → InOrder before (states_of ws')
  inserted_in_order order x_on on sorted point =
      let many : length (states_of ws) ≡ length ws = length-map ws (λ v. v.state.number) in
      subst (InOrder before) (sym states_are)
      (in_order_inserted n before order (states_of ws) on sorted x x_on i
      (λ k h w. ap (before x) (get_or-map (λ v. v.state.number) ws k e 0 (omega (arith, many))) ∙ point.0 k e (omega arith) h)
      (λ k h w. ap (before x) (get_or-map (λ v. v.state.number) ws k e 0 (omega (arith, many))) ∙ point.1 k e h (omega (arith, many))))

-- the first k entries alone
module _ {K : Type 0} (k : ℕ) (ws ws' : List (Waiting K)) (rest : ws' ≡ take k ws) where
  front_map : {Y : Type 0} (f : Waiting K → Y) → map f ws' ≡ take k (map f ws)
  front_map f = ap (map f) rest ∙ sym (take-map f k ws)

  pub front_on : (m : ℕ) → all_below m (states_of ws) ≡ true → all_below m (states_of ws') ≡ true
  front_on m on = all_below_from m _ (λ y i. below_all m (states_of ws) on y (in_front (states_of ws) k y (subst (λ v. In y v) (front_map (λ e. e.state.number)) i)))

  pub front_weighed : (figures : List ℕ) → masses_of ws ≡ map (mass figures) (states_of ws) → masses_of ws' ≡ map (mass figures) (states_of ws')
  front_weighed figures weighed =
      front_map (λ e. e.mass) ∙ ap (take k) weighed ∙ take-map (mass figures) k (states_of ws) ∙ ap (map (mass figures)) (sym (front_map (λ e. e.state.number)))

  pub front_keyed : (keyed : ℕ → K) → ∥ Keyed keyed ws ∥₁ → ∥ Keyed keyed ws' ∥₁
  front_keyed keyed keys = ∥∥₁_map keys (λ is. front_map (λ e. e.key) ∙ ap (take k) is ∙ sym (front_map (λ e. keyed e.state.number)))

  pub front_in_order : (before : ℕ → ℕ → Bool) → InOrder before (states_of ws) → InOrder before (states_of ws')
  front_in_order before sorted = subst (InOrder before) (sym (front_map (λ e. e.state.number))) (pairwise_take (λ p q. before p q ≡ false) (states_of ws) k sorted)

-- all but the foremost
pub foremost_removed : {K : Type 0} (n : ℕ) (figures : List ℕ) (before : ℕ → ℕ → Bool) (ws ws' : List (Waiting K)) (e : Waiting K) → IsForemost n figures before ws e
    → ws' ≡ take (length ws - 1) ws → Same (e.state.number ∷ states_of ws') (states_of ws)
foremost_removed n figures before ws ws' e foremost rest f =
    let front = foremost.front in
    let many : length front ≡ length ws - 1 = omega (arith, ap length foremost.last, length_push front e) in
    let same : ws' ≡ front = rest ∙ ap (take (length ws - 1)) foremost.last ∙ take_at front (e ∷ []) (length ws - 1) many in
    let split : states_of ws ≡ states_of front ++ e.state.number ∷ [] = ap states_of foremost.last ∙ map-append (λ v. v.state.number) front (e ∷ []) in
    omega (arith, ap (λ v. sum_of f (states_of v)) same, ap (sum_of f) split, sum_of_append f (states_of front) (e.state.number ∷ []))

-- the foremost waits
pub foremost_waits : {K : Type 0} (n : ℕ) (figures : List ℕ) (before : ℕ → ℕ → Bool) (ws : List (Waiting K)) (e : Waiting K) → IsForemost n figures before ws e → In e.state.number (states_of ws)
foremost_waits n figures before ws e foremost =
    let split : states_of ws ≡ states_of foremost.front ++ e.state.number ∷ [] = ap states_of foremost.last ∙ map-append (λ v. v.state.number) foremost.front (e ∷ []) in
    subst (λ v. In e.state.number v) (sym split) (in_append_right (states_of foremost.front) (e.state.number ∷ []) e.state.number (inl refl))

-- the last of entries in order is the foremost
module _ {K : Type 0} (n : ℕ) (figures : List ℕ) (before : ℕ → ℕ → Bool) (order : StrictOrder n before) (ws : List (Waiting K)) (on : all_below (2 ^ n) (states_of ws) ≡ true)
    (weighed : masses_of ws ≡ map (mass figures) (states_of ws)) (sorted : InOrder before (states_of ws)) where
  last_foremost : (e : Waiting K) → length ws - 1 < length ws → get_or ws (length ws - 1) e ≡ e → IsForemost n figures before ws e
  last_foremost e some read =
      let i : ℕ = length ws - 1 in
      let whole : i + 1 ≡ length ws = omega arith in
      let front = take i ws in
      let x = e.state.number in
      let last : ws ≡ front ++ e ∷ [] = sym (take_all (i + 1) ws (omega arith)) ∙ take_more ws i e some ∙ ap (λ v. front ++ v ∷ []) read in
      let split : states_of ws ≡ states_of front ++ x ∷ [] = ap states_of last ∙ map-append (λ v. v.state.number) front (e ∷ []) in
      let there : In x (states_of ws) = subst (λ v. In x v) (sym split) (in_append_right (states_of front) (x ∷ []) x (inl refl)) in
      let x_on = below_all (2 ^ n) (states_of ws) on x there in
      record {
        front = front;
        last = last;
        on_sheet = x_on;
        weighed = (same_from_push (masses_of front) (map (mass figures) (states_of front)) e.mass (mass figures x)
            (sym (ap masses_of last ∙ map-append (λ v. v.mass) front (e ∷ [])) ∙ weighed ∙ ap (map (mass figures)) split ∙ map-append (mass figures) (states_of front) (x ∷ []))).1;
        first = λ y i. ⊎_elim (λ same. inl same.1) (λ other. inr (ahead_of x y x_on (below_all (2 ^ n) (states_of ws) on y i) other.1 (states_of front) split i)) (eqb_tells x y);
      }
    where
      ahead_of : (x y : ℕ) → x < 2 ^ n → y < 2 ^ n → (x ≡ y → ⊥) → (zs : List ℕ) → states_of ws ≡ zs ++ x ∷ [] → In y (states_of ws) → before x y ≡ true
      ahead_of x y x_on y_on other zs split i =
          ⊎_elim (λ j. order.one_of_two x y x_on y_on other ∙ ap not (pairwise_last (λ p q. before p q ≡ false) zs x y (subst (InOrder before) split sorted) j)) last (in_append_cases zs (x ∷ []) y (subst (λ v. In y v) split i))
        where
          last : In y (x ∷ []) → before x y ≡ true
          last (inl same) = absurd (other same)
          last (inr j) = absurd j

  pub foremost_found : MatchOption (slice_get ws (length ws - 1)) (states_of ws ≡ []) (λ e. IsForemost n figures before ws e)
  foremost_found =
      ⊎_elim (λ some. subst (λ r. MatchOption r (states_of ws ≡ []) (λ e. IsForemost n figures before ws e)) (sym some.2) (last_foremost some.0 some.1 some.3))
      (λ none. subst (λ r. MatchOption r (states_of ws ≡ []) (λ e. IsForemost n figures before ws e)) (sym none.1) (ap states_of (nil_from_length ws (omega (arith, none.0)))))
      (slice_get_cases ws (length ws - 1)).1
