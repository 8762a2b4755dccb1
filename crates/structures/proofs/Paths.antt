-- The numbers of a path list's paths. Assumes nothing.
use Rattle.std.proofs.Common.{◌≡◌, ℕ, ◌%◌, ◌^◌, Bool, true, false, ◌||◌, leb, List, [], ◌∷◌, map, None, refl, ap, ap₂, mod-eq_of_lt, arith}
use Rattle.std.specs.List.{list_any}
use Rattle.states.specs.Sets.{disjoint}
use Rattle.states.specs.declared.state.State.{State}
use Rattle.structures.specs.Meanings.{path_list_works}
use Rattle.structures.specs.Paths.{first_too_high}

-- a test of the numbers of sets is one of the sets
pub any_number : (x : ℕ) (paths : List State) → path_list_works (map (λ path. path.number) paths) x ≡ list_any (λ path. disjoint path.number x) paths
any_number x [] = refl
any_number x (path ∷ paths) = ap (λ b. disjoint path.number x || b) (any_number x paths)

-- numbers of which none is too high are those of their sets
pub all_fit : (ns : List ℕ) → first_too_high ns ≡ None → map (λ n. n % 2 ^ 40) ns ≡ ns
all_fit [] none = refl
all_fit (n ∷ ns) none = go (leb (2 ^ 40) n) refl (all_fit ns)
  where
    go : (b : Bool) → leb (2 ^ 40) n ≡ b → (first_too_high ns ≡ None → map (λ n. n % 2 ^ 40) ns ≡ ns) → n % 2 ^ 40 ∷ map (λ n. n % 2 ^ 40) ns ≡ n ∷ ns
    go true high rest = absurd (grind (arith, none, high))
    go false fits rest = ap₂ (◌∷◌) (mod-eq_of_lt (grind (arith, fits))) (rest (grind (arith, none, fits)))
