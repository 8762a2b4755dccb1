-- Where no state waits twice, a queue's order is strict: each state is behind all later ones. Assumes nothing.
use Rattle.std.proofs.Common.{◌≡◌, ℕ, ◌^◌, ◌<◌, Bool, true, false, not, List, [], ◌∷◌, sym, refl, ◌∙◌, subst}
use Rattle.std.specs.List.{AllByRecursion}
use Rattle.states.specs.Lists.{In, Different, Pairwise}
use Rattle.states.proofs.Lists.{all_in, all_from_in}
use Rattle.rankings.specs.Orders.{StrictOrder}
use Rattle.listing.specs.Waiters.{InOrder}

turned : (b : Bool) → false ≡ not b → b ≡ true
turned true e = refl
turned false e = e

pub each_behind : (n : ℕ) (before : ℕ → ℕ → Bool) → StrictOrder n before → (zs : List ℕ) → AllByRecursion (λ z. z < 2 ^ n) zs → Different zs → InOrder before zs
    → Pairwise (λ x y. before y x ≡ true) zs
each_behind n before order [] on differ ranked = tt
each_behind n before order (z ∷ zs) on differ ranked = (
  all_from_in (λ y. before y z ≡ true) zs
      (λ y i.
      turned (before y z) (sym (all_in (λ v. before z v ≡ false) zs y ranked.0 i) ∙ order.one_of_two z y on.0 (all_in (λ v. v < 2 ^ n) zs y on.1 i) (λ e. differ.0 (subst (λ v. In v zs) (sym e) i)))),
  each_behind n before order zs on.1 differ.1 ranked.1,
)
