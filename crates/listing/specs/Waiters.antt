-- What the waiting entries of a listing say. Assumes nothing.
use Rattle.std.specs.Prelude.{◌≡◌, ℕ, ◌^◌, ◌<◌, Bool, true, false, ◌&&◌, ◌⊎◌, List, [], ◌∷◌, ◌++◌, map, nat_lt}
use Rattle.std.specs.List.{AllByRecursion-prop}
use Rattle.std.specs.Coded.{×_prop, Unit-prop}
use Rattle.std.proofs.Math.Bool.{Bool-set}
use Rattle.states.specs.Lists.{In, Pairwise}
use Rattle.states.specs.Masses.{mass}
use Rattle.listing.specs.declared.waiting.Waiting.{Waiting}

-- the states of entries
abbrev pub states_of : {K : Type 0} → List (Waiting K) → List ℕ
states_of ws = map (λ e. e.state.number) ws

-- the masses that entries keep
abbrev pub masses_of : {K : Type 0} → List (Waiting K) → List ℕ
masses_of ws = map (λ e. e.mass) ws

-- all numbers are below m
abbrev pub all_below : ℕ → List ℕ → Bool
all_below m [] = true
all_below m (x ∷ xs) = nat_lt x m && all_below m xs

-- each entry's key is that of its state
abbrev pub Keyed : {K : Type 0} → (ℕ → K) → List (Waiting K) → Type 0
Keyed keyed ws = map (λ e. e.key) ws ≡ map (λ e. keyed e.state.number) ws

-- no state is ahead of a later one
abbrev pub InOrder : (ℕ → ℕ → Bool) → List ℕ → Type 0
InOrder before zs = Pairwise (λ x y. before x y ≡ false) zs

pub InOrder-prop : (before : ℕ → ℕ → Bool) (zs : List ℕ) → IsProp (InOrder before zs)
InOrder-prop before [] = Unit-prop
InOrder-prop before (z ∷ zs) = ×_prop (AllByRecursion-prop _ (λ y. Bool-set _ _) zs) (InOrder-prop before zs)

-- e is the last of the entries, of a state of the sheet that is ahead of all others that wait, with its own mass
pub record IsForemost {K : Type 0} (n : ℕ) (figures : List ℕ) (before : ℕ → ℕ → Bool) (ws : List (Waiting K)) (e : Waiting K) : Type 0 where
  pub front : List (Waiting K)
  pub last : ws ≡ front ++ e ∷ []
  pub on_sheet : e.state.number < 2 ^ n
  pub weighed : e.mass ≡ mass figures e.state.number
  pub first : (y : ℕ) → In y (states_of ws) → (e.state.number ≡ y) ⊎ (before e.state.number y ≡ true)
