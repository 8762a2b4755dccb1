-- The law of listings, from what a listing keeps. Assumes nothing.
use Rattle.std.proofs.Common.{◌≡◌, ℕ, zero, suc, ◌-◌, ◌*◌, ◌/◌, ◌^◌, ◌≤◌, Bool, true, false, cond, ◌||◌, ◌⊎◌, List, [], ◌∷◌, ◌++◌, length, sym, refl, ap, ◌∙◌, subst, subst₂, inl, inr, ⊎_elim, arith}
use borrow.Author.Tests.{clash}
use Rattle.std.specs.List.{AllByRecursion}
use Rattle.std.proofs.lemmas.List.{append-nil, append_assoc, same_from_push}
use Rattle.std.proofs.lemmas.Bool.{cases_eq, or_cases}
use Rattle.states.specs.Lists.{In}
use Rattle.states.specs.Masses.{total}
use Rattle.states.specs.Sums.{sum_below, sum_of}
use Rattle.states.specs.Trees.{in_tree, cone_sum, tree_sum}
use Rattle.states.proofs.Lists.{all_in, sum_of_le}
use Rattle.states.proofs.Trees.{cone_contains, cone_step, tree_step}
use Rattle.rankings.specs.Orders.{ahead, StrictOrder}
use Rattle.rankings.proofs.Orders.{strict_order}
use Rattle.rankings.proofs.Trees.{root_first}
use Rattle.calls.specs.Calls.{Runs, ends_here, goes_on, Said, Step, next_step, run_step, refused_step, figures_step, ran_out, is_finished, says_finished, Ends}
use Rattle.calls.specs.Handing.{NextAnswer, handed_out, finished, full, Foremost, HandsOut, Next, handed_by}
use Rattle.calls.specs.Histories.{Moment, Led, none, more, handed_in, finished_in}
use Rattle.calls.specs.Law.{Covered, OrderLaw, FiguresLaw, Heaviest}
use Rattle.calls.specs.Memories.{Memory, rounded_up}
use Rattle.calls.specs.Stations.{Station, parts, up_in, Ahead, OnSheet, reliability, MinimalCut}
use Rattle.calls.specs.declared.answers.Call.{Call}
use Rattle.calls.specs.declared.answers.Ending.{Ending}
use Rattle.calls.specs.declared.answers.Ending.TheVariants as ends
use Rattle.calls.proofs.Accounts.{fails_above, Where, handed, covered, hangs, find, up_bound, down_bound, up_exact, down_exact}
use Rattle.calls.proofs.Best.{NonePassedOver, heaviest}
use Rattle.calls.proofs.Endings.{no_last}
use Rattle.calls.proofs.Histories.{handed_push, finished_push}
use Rattle.calls.proofs.Invariant.{Lawful, Kept, taken, kept_opened, kept_next}

ones_of : (xs : List ℕ) → sum_of (λ x. 1) xs ≡ length xs
ones_of [] = refl
ones_of (x ∷ xs) = omega (arith, ones_of xs)

pub ones_below : (m : ℕ) → sum_below m (λ x. 1) ≡ m
unfolding sum_below
ones_below zero = refl
ones_below (suc m) = omega (arith, ones_below m)

-- each state handed out takes at least itself
pub taken_each : (w : Station) (xs : List ℕ) → AllByRecursion (OnSheet w) xs → length xs ≤ sum_of (taken w (λ x. 1)) xs
taken_each w xs on =
    omega (arith, ones_of xs, sum_of_le (λ x. 1) (taken w (λ x. 1)) xs (λ x i. one x (all_in (OnSheet w) xs x on i) (up_in w x)))
  where
    one : (x : ℕ) → OnSheet w x → (b : Bool) → 1 ≤ cond b 1 (cone_sum (parts w) (λ y. 1) x)
    one x x_on true = omega arith
    one x x_on false = omega (arith, cone_step (parts w) x (λ y. 1) x_on)

-- once as many states were handed out as the sheet has, nothing waits
pub all_out : (w : Station) (xs : List ℕ) (l : Memory) → Kept w xs l → length xs ≡ 2 ^ parts w → l.waiting ≡ []
all_out w xs l k e = none_left l.waiting k.waiting_on_sheet (omega (arith, taken_each w xs k.on_sheet, k.accounts (λ x. 1), ones_below (2 ^ parts w)))
  where
    none_left : (zs : List ℕ) → AllByRecursion (OnSheet w) zs → sum_of (tree_sum (parts w) (λ x. 1)) zs ≡ 0 → zs ≡ []
    none_left [] on h = refl
    none_left (z ∷ zs) on h = absurd (omega (arith, tree_step (parts w) z (λ x. 1) on.0))

-- all that lasts from call to call
pub record Lasting (w : Station) (xs : List ℕ) (f : Bool) (l : Memory) : Type 0 where
  pub kept : Kept w xs l
  pub passed : NonePassedOver w xs
  -- after 'finished' nothing waits
  pub done : f ≡ true → l.waiting ≡ []

module _ (w : Station) (laws : Lawful w) where
  order : StrictOrder (parts w) (ahead w.outranks)
  order = strict_order (parts w) w.outranks laws.one_way laws.through

  -- two states are not ahead of each other
  pub never_both : (x y : ℕ) → OnSheet w x → OnSheet w y → Ahead w x y → Ahead w y x → ⊥
  never_both x y x_on y_on a b = clash (sym (order.not_itself x x_on) ∙ order.passes_on x y x x_on y_on x_on a b)

  -- whatever is ahead of the foremost was handed out, or contains a failing one that was
  none_before : (xs : List ℕ) (l : Memory) → Kept w xs l → (x : ℕ) → Foremost w l x → (y : ℕ) → OnSheet w y → Ahead w y x → In y xs ⊎ Covered w xs y
  none_before xs l k x first y y_on a = go (find w xs l k y y_on)
    where
      x_on : OnSheet w x
      x_on = all_in (OnSheet w) l.waiting x k.waiting_on_sheet first.waits

      behind : (z : ℕ) → In z l.waiting → in_tree (parts w) z y ≡ true → ⊥
      behind z i t =
          let z_on = all_in (OnSheet w) l.waiting z k.waiting_on_sheet i in
          let root = root_first (parts w) w.outranks laws.one_way laws.through laws.add_follows laws.move_follows z y z_on y_on t in
          let to-z : Ahead w y z → ⊥ = λ b. ⊎_elim (λ e. never_both y y y_on y_on (subst (λ v. Ahead w y v) e b) (subst (λ v. Ahead w y v) e b)) (λ c. never_both y z y_on z_on b c) root in
          ⊎_elim (λ e. to-z (subst (λ v. Ahead w y v) e a)) (λ c. to-z (order.passes_on y x z y_on x_on z_on a c)) (first.first z i)

      go : Where w xs l y → In y xs ⊎ Covered w xs y
      go (handed i) = inl i
      go (covered u i f c) = inr (u, i, f, cone_contains (parts w) u y (all_in (OnSheet w) xs u k.on_sheet i) c)
      go (hangs z i t) = absurd (behind z i t)

  lasting_next : (xs : List ℕ) (f : Bool) (l : Memory) (x : ℕ) (l' : Memory) → Lasting w xs f l → HandsOut w l x l' → Lasting w (xs ++ x ∷ []) f l'
  lasting_next xs f l x l' a s = record {
    kept = kept_next w laws xs l x l' a.kept s;
    passed = λ before z e y y_on b.
        let same = same_from_push xs before x z e in
        subst (λ ys. In y ys ⊎ Covered w ys y) same.0 (none_before xs l a.kept x s.foremost y y_on (subst (λ v. Ahead w y v) (sym same.1) b));
    done = λ t. absurd (nothing (subst (λ v. In x v) (a.done t) s.foremost.waits));
  }
    where
      nothing : In x [] → ⊥
      nothing i = i

  -- 'finished' where nothing waits
  lasting_done : (xs : List ℕ) (f g : Bool) (l : Memory) → Lasting w xs f l → (g ≡ true → l.waiting ≡ []) → Lasting w xs (f || g) l
  lasting_done xs f g l a e = record { kept = a.kept; passed = a.passed; done = λ t. ⊎_elim a.done e (or_cases f g t) }

  empty_end : (target budget count : ℕ) (l : Memory) (e : Ending) → Ends w target budget count l e → ran_out e ≡ true → l.waiting ≡ []
  empty_end target budget count l ends.Reached stop t = absurd (clash t)
  empty_end target budget count l ends.Finished stop t = stop.1
  empty_end target budget count l ends.Spent stop t = absurd (clash t)
  empty_end target budget count l ends.Full stop t = absurd (clash t)

  -- an answer that hands out nothing
  lasting_same : (xs : List ℕ) (f g : Bool) (l l' : Memory) → Lasting w xs f l → (g ≡ true → l.waiting ≡ []) → l' ≡ l → Lasting w (xs ++ []) (f || g) l'
  lasting_same xs f g l l' a e same = rw (append-nil xs, same) (lasting_done xs f g l a e)

  lasting_answer : (xs : List ℕ) (f : Bool) (l l' : Memory) (a : NextAnswer) → Lasting w xs f l → Next w l a l' → Lasting w (xs ++ handed_by a) (f || is_finished a) l'
  lasting_answer xs f l l' (handed_out x v) k next =
      lasting_done (xs ++ x ∷ []) f false l' (lasting_next xs f l x l' k next.0) (λ t. absurd (clash t))
  lasting_answer xs f l l' finished k next = lasting_same xs f true l l' k (λ t. next.0) next.1
  lasting_answer xs f l l' full k next = lasting_same xs f false l l' k (λ t. absurd (clash t)) next.1

  lasting_runs : (target budget : ℕ) {count : ℕ} {l l' : Memory} {e : Ending} {ys : List ℕ} (xs : List ℕ) (f : Bool) → Lasting w xs f l → Runs w target budget count l e ys l' → Lasting w (xs ++ ys) (f || ran_out e) l'
  lasting_runs target budget {l = l} {e = e} xs f a (ends_here stop) =
      subst (λ zs. Lasting w zs (f || ran_out e) l) (sym (append-nil xs)) (lasting_done xs f (ran_out e) l a (empty_end target budget _ l e stop))
  lasting_runs target budget xs f a (goes_on {x = x} {l₁ = l₁} {l₂ = l₂} {e = e} {xs = ys} on next rest) =
      subst (λ zs. Lasting w zs (f || ran_out e) l₂) (append_assoc xs (x ∷ []) ys)
      (lasting_runs target budget (xs ++ x ∷ []) f (lasting_next xs f _ x l₁ a next.0) rest)

  lasting_step : (xs : List ℕ) (f : Bool) {c : Call} {l l' : Memory} {r : Said} {ys : List ℕ} → Lasting w xs f l → Step w c l r ys l' → Lasting w (xs ++ ys) (f || says_finished r) l'
  lasting_step xs f {l = l} {l' = l'} k (next_step a next) = lasting_answer xs f l l' a k next
  lasting_step xs f k (run_step {target = target} {budget = budget} e small runs) = lasting_runs target budget xs f k runs
  lasting_step xs f {l = l} k (refused_step high) = lasting_same xs f false l l k (λ t. absurd (clash t)) refl
  lasting_step xs f {l = l} k figures_step = lasting_same xs f false l l k (λ t. absurd (clash t)) refl

  pub lasts : {ms : List Moment} {l : Memory} → Led w ms l → Lasting w (handed_in ms) (finished_in ms) l
  lasts none = record { kept = kept_opened w; passed = λ before z e. absurd (no_last before z (sym e)); done = λ t. absurd (clash t) }
  lasts (more ms m led step) =
      subst₂ (λ xs f. Lasting w xs f m.kept) (sym (handed_push ms m)) (sym (finished_push ms m)) (lasting_step (handed_in ms) (finished_in ms) (lasts led) step)

  module _ (xs : List ℕ) (f : Bool) (l : Memory) (a : Lasting w xs f l) where
    k : Kept w xs l
    k = a.kept

    -- once nothing waits, every state was handed out or contains a failing one that was
    out : f ≡ true → (y : ℕ) → OnSheet w y → In y xs ⊎ Covered w xs y
    out t y y_on = go (find w xs l a.kept y y_on)
      where
        go : Where w xs l y → In y xs ⊎ Covered w xs y
        go (handed i) = inl i
        go (covered u i g c) = inr (u, i, g, cone_contains (parts w) u y (all_in (OnSheet w) xs u a.kept.on_sheet i) c)
        go (hangs z i h) = absurd (subst (λ v. In z v) (a.done t) i)

    all_working : f ≡ true → (y : ℕ) → OnSheet w y → up_in w y ≡ true → In y xs
    all_working t y y_on works = ⊎_elim (λ i. i) no_cover (out t y y_on)
      where
        no_cover : Covered w xs y → In y xs
        no_cover (u, i, g, inside) =
            absurd (clash (sym (fails_above w laws u y (all_in (OnSheet w) xs u a.kept.on_sheet i) y_on inside g) ∙ works))

    all_cuts : f ≡ true → (y : ℕ) → MinimalCut w y → In y xs
    all_cuts t y cut = ⊎_elim (λ i. i) covers (out t y cut.on_sheet)
      where
        covers : Covered w xs y → In y xs
        covers (u, i, g, inside) =
            ⊎_elim (λ e. subst (λ v. In v xs) e i) (λ ne. absurd (clash (sym g ∙ cut.subsets_work u inside ne))) (cases_eq u y)

    -- each state handed out takes at least itself
    count_bound : length xs ≤ 2 ^ parts w
    count_bound = omega (arith, taken_each w xs a.kept.on_sheet, a.kept.accounts (λ x. 1), ones_below (2 ^ parts w))

    pub order_holds : OrderLaw w xs f
    order_holds = record {
      on_sheet = a.kept.on_sheet;
      in_order = a.kept.in_order;
      none_passed_over = a.passed;
      all_working = all_working;
      all_cuts = all_cuts;
    }

    pub figures_hold : FiguresLaw w xs f l
    figures_hold = record {
      up_is = a.kept.up_is;
      lower_below = omega (arith, up_bound w laws xs l a.kept);
      upper_above = omega (arith, down_bound w laws xs l a.kept);
      up_exact = λ t. up_exact w laws xs l a.kept (a.done t);
      down_exact = λ t. down_exact w laws xs l a.kept (a.done t);
      lower_exact = λ t. ap (λ u. 1000000000 * u / total) (up_exact w laws xs l a.kept (a.done t));
      upper_exact = λ t. let e : total - l.down ≡ reliability w = omega (arith, down_exact w laws xs l a.kept (a.done t)) in ap (λ v. rounded_up (1000000000 * v) total) e;
      count_is = a.kept.count_is;
      count_bound = count_bound;
    }

    pub heaviest_out : Heaviest w xs
    heaviest_out exact = heaviest w laws.one_way order exact xs a.kept.on_sheet a.kept.in_order a.passed
