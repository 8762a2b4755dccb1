-- What a listing keeps true from call to call. Assumes nothing.
use Rattle.std.proofs.Common.{◌≡◌, ℕ, ◌+◌, ◌^◌, ◌<◌, ◌≤◌, Bool, true, false, cond, ◌⊎◌, List, [], ◌∷◌, ◌++◌, length, get_or, sym, refl, ap, subst, inl, inr, ⊎_elim, arith, pow_pos}
use Rattle.std.specs.List.{AllByRecursion}
use Rattle.std.proofs.ByRecursion.{All-push}
use Rattle.std.proofs.lemmas.List.{length_push}
use Rattle.std.proofs.lemmas.Bool.{cond-true}
use Rattle.states.specs.Lists.{In, Pairwise}
use Rattle.states.specs.Sets.{Within}
use Rattle.states.specs.Steps.{add_step, move_step, Leads as StepsTo}
use Rattle.states.specs.Sums.{sum_below, sum_of}
use Rattle.states.specs.Trees.{in_cone, in_tree, cone_sum, tree_sum}
use Rattle.states.proofs.Indicators.{only, only_itself, only_all, only_tree, only_cone, member_le}
use Rattle.states.proofs.Lists.{in_append_right, in_append_cases, all_in, all_from_in, pairwise_append, sum_of_append, same_in}
use Rattle.states.proofs.Trees.{tree_step, cone_step, whole_tree, in_own_cone, in_own_tree, steps_within}
use Rattle.rankings.specs.Orders.{OneWay, Through, AddFollows, MoveFollows, ahead, StrictOrder}
use Rattle.rankings.proofs.Orders.{strict_order}
use Rattle.rankings.proofs.Trees.{step_behind}
use Rattle.calls.specs.Handing.{next_states, HandsOut}
use Rattle.calls.specs.Memories.{Memory, opened}
use Rattle.calls.specs.Stations.{Station, parts, up_in, mass_in, share_in, Ahead, OnSheet}

-- the laws that a station's sheet, pile and ranking keep
pub record Lawful (w : Station) : Type 0 where
  pub few : parts w ≤ 40
  pub figures : (l : ℕ) → get_or w.figures l 0 ≤ 1000000
  pub contained : (x y : ℕ) → y < 2 ^ 40 → Within x y → w.works y ≡ true → w.works x ≡ true
  pub one_way : OneWay (parts w) w.outranks
  pub through : Through (parts w) w.outranks
  pub add_follows : AddFollows (parts w) w.outranks
  pub move_follows : MoveFollows (parts w) w.outranks

-- what handing out x takes off the account of h: a working state itself, and a failing one with its cone
abbrev pub taken : Station → (ℕ → ℕ) → ℕ → ℕ
taken w h x = cond (up_in w x) (h x) (cone_sum (parts w) h x)

-- xs were handed out, and l is kept
pub record Kept (w : Station) (xs : List ℕ) (l : Memory) : Type 0 where
  -- every weight h is accounted for: handed out, or hanging under what waits
  pub accounts : (h : ℕ → ℕ) → sum_of (taken w h) xs + sum_of (tree_sum (parts w) h) l.waiting ≡ sum_below (2 ^ parts w) h
  pub on_sheet : AllByRecursion (OnSheet w) xs
  pub waiting_on_sheet : AllByRecursion (OnSheet w) l.waiting
  pub in_order : Pairwise (Ahead w) xs
  pub before_waiting : (x y : ℕ) → In x xs → In y l.waiting → Ahead w x y
  pub up_is : l.up ≡ sum_of (λ x. cond (up_in w x) (mass_in w x) 0) xs
  pub down_is : l.down ≡ sum_of (λ x. cond (up_in w x) 0 (share_in w x)) xs
  pub count_is : l.handed ≡ length xs

pub kept_opened : (w : Station) → Kept w [] opened
kept_opened w = record {
  accounts = λ h. omega (arith, whole_tree (parts w) h);
  on_sheet = tt;
  waiting_on_sheet = (pow_pos (parts w), tt);
  in_order = tt;
  before_waiting = λ x y i. absurd i;
  up_is = refl;
  down_is = refl;
  count_is = refl;
}

-- what a state's tree holds: what handing it out takes, and the trees of what begins to wait
tree_parts : (w : Station) (h : ℕ → ℕ) (x : ℕ) → OnSheet w x → tree_sum (parts w) h x ≡ taken w h x + sum_of (tree_sum (parts w) h) (next_states w x)
tree_parts w h x on = go (up_in w x)
  where
    n : ℕ
    n = parts w

    go : (b : Bool) → tree_sum (parts w) h x ≡ cond b (h x) (cone_sum (parts w) h x) + sum_of (tree_sum (parts w) h) (cond b (add_step (parts w) x ++ move_step (parts w) x) (move_step (parts w) x))
    go true = omega (arith, tree_step (parts w) x h on, sum_of_append (tree_sum (parts w) h) (add_step (parts w) x) (move_step (parts w) x))
    go false = omega (arith, tree_step (parts w) x h on, cone_step (parts w) x h on)

-- a state is in its own cone and tree
in_cone_one : (n x : ℕ) → ◌≡◌ {A = ℕ} (cond (in_cone n x x) 1 0) 1
in_cone_one n x = cond-true (in_cone n x x) 1 0 (in_own_cone n x)

in_tree_one : (n x : ℕ) → x < 2 ^ n → ◌≡◌ {A = ℕ} (cond (in_tree n x x) 1 0) 1
in_tree_one n x on = cond-true (in_tree n x x) 1 0 (in_own_tree n x on)

-- a state takes itself
takes_itself : (w : Station) (x : ℕ) → OnSheet w x → 1 ≤ taken w (only x) x
takes_itself w x on = go (up_in w x)
  where
    go : (b : Bool) → 1 ≤ cond b (only x x) (cone_sum (parts w) (only x) x)
    go true = omega (arith, only_itself x)
    go false = omega (arith, only_cone (parts w) x x on, in_cone_one (parts w) x)

-- each of the next states hangs on a step
pub next_step : (w : Station) (x y : ℕ) → In y (next_states w x) → StepsTo (parts w) x y
next_step w x y i = go (up_in w x) i
  where
    one : (b : Bool) (z : ℕ) → In y (cond b (z ∷ []) []) → cond b (z ∷ []) [] ≡ y ∷ []
    one true z (inl e) = ap (λ v. v ∷ []) e
    one true z (inr j) = absurd j
    one false z j = absurd j

    go : (b : Bool) → In y (cond b (add_step (parts w) x ++ move_step (parts w) x) (move_step (parts w) x)) → StepsTo (parts w) x y
    go true j = ⊎_elim (λ a. inl (one _ _ a)) (λ m. inr (one _ _ m)) (in_append_cases (add_step (parts w) x) (move_step (parts w) x) y j)
    go false j = inr (one _ _ j)

module _ (w : Station) (laws : Lawful w) where
  order : StrictOrder (parts w) (ahead w.outranks)
  order = strict_order (parts w) w.outranks laws.one_way laws.through

  module _ (xs : List ℕ) (l : Memory) (x : ℕ) (l' : Memory) (k : Kept w xs l) (s : HandsOut w l x l') where
    x_on : OnSheet w x
    x_on = all_in (OnSheet w) l.waiting x k.waiting_on_sheet s.foremost.waits

    accounts : (h : ℕ → ℕ) → sum_of (taken w h) (xs ++ x ∷ []) + sum_of (tree_sum (parts w) h) l'.waiting ≡ sum_below (2 ^ parts w) h
    accounts h =
        omega (arith, k.accounts h, s.waiting (tree_sum (parts w) h), sum_of_append (tree_sum (parts w) h) (next_states w x) l.waiting, tree_parts w h x x_on, sum_of_append (taken w h) xs (x ∷ []))

    -- what waits now waited before, or is a step from x
    waited : (y : ℕ) → In y l'.waiting → StepsTo (parts w) x y ⊎ In y l.waiting
    waited y i =
        ⊎_elim (λ j. inl (next_step w x y j)) inr
        (in_append_cases (next_states w x) l.waiting y (same_in (x ∷ l'.waiting) (next_states w x ++ l.waiting) s.waiting y (inr i)))

    -- x waits no more
    gone : In x l'.waiting → ⊥
    gone i =
        let all = accounts (only x) in
        let one = only_all (parts w) x x_on in
        let out = member_le (taken w (only x)) (xs ++ x ∷ []) x (in_append_right xs (x ∷ []) x (inl refl)) in
        let hangs = member_le (tree_sum (parts w) (only x)) l'.waiting x i in
        omega (arith, all, one, out, hangs, takes_itself w x x_on, only_tree (parts w) x x x_on, in_tree_one (parts w) x x_on)

    on_sheet : AllByRecursion (OnSheet w) l'.waiting
    on_sheet = all_from_in (OnSheet w) l'.waiting (λ y i. ⊎_elim (λ j. (steps_within (parts w) x x_on y j).0) (λ j. all_in (OnSheet w) l.waiting y k.waiting_on_sheet j) (waited y i))

    -- whatever was handed out is ahead of whatever waits now
    before_waiting : (u y : ℕ) → In u (xs ++ x ∷ []) → In y l'.waiting → Ahead w u y
    before_waiting u y i j = ⊎_elim earlier last (in_append_cases xs (x ∷ []) u i)
      where
        y_on : OnSheet w y
        y_on = all_in (OnSheet w) l'.waiting y on_sheet j

        x_first : Ahead w x y
        x_first =
            ⊎_elim (λ step. step_behind (parts w) w.outranks laws.one_way laws.through laws.add_follows laws.move_follows x y x_on step)
            (λ old. ⊎_elim (λ e. absurd (gone (subst (λ v. In v l'.waiting) (sym e) j))) (λ a. a) (s.foremost.first y old))
            (waited y j)

        earlier : In u xs → Ahead w u y
        earlier e =
            let u-on = all_in (OnSheet w) xs u k.on_sheet e in
            order.passes_on u x y u-on x_on y_on (k.before_waiting u x e s.foremost.waits) x_first

        last : In u (x ∷ []) → Ahead w u y
        last (inl e) = subst (λ v. Ahead w v y) e x_first
        last (inr n) = absurd n

    pub kept_next : Kept w (xs ++ x ∷ []) l'
    kept_next = record {
      accounts = accounts;
      on_sheet = All-push (OnSheet w) xs x k.on_sheet x_on;
      waiting_on_sheet = on_sheet;
      in_order = pairwise_append (Ahead w) xs x k.in_order (all_from_in (λ u. Ahead w u x) xs (λ u i. k.before_waiting u x i s.foremost.waits));
      before_waiting = before_waiting;
      up_is = omega (arith, s.up, k.up_is, sum_of_append (λ v. cond (up_in w v) (mass_in w v) 0) xs (x ∷ []));
      down_is = omega (arith, s.down, k.down_is, sum_of_append (λ v. cond (up_in w v) 0 (share_in w v)) xs (x ∷ []));
      count_is = omega (arith, s.handed, k.count_is, length_push xs x);
    }
