-- Walks over the links of a network: what it means that two masts are joined. Assumes nothing.
use Rattle.std.specs.Prelude.{◌≡◌, ℕ, false, ◌⊎◌, List, [], ◌∷◌}
use Rattle.states.specs.Sets.{has}
use Rattle.networks.specs.declared.link.Link.{Link}

-- the link has the ends a and b, in either order
abbrev pub Ends : Link → ℕ → ℕ → Type 0
Ends l a b = ((l.one ≡ a) × (l.other ≡ b)) ⊎ ((l.one ≡ b) × (l.other ≡ a))

-- these ends are joined in the state x: some link has them, and its part is sound
abbrev pub Joined : List Link → ℕ → ℕ → ℕ → Type 0
Joined [] x a b = ⊥
Joined (l ∷ ls) x a b = ((has l.part x ≡ false) × Ends l a b) ⊎ Joined ls x a b

-- a walk over joined ends, of no step or more
pub data Walk (links : List Link) (x : ℕ) : ℕ → ℕ → Type 0 where
  here : {a : ℕ} → Walk links x a a
  on : {a b c : ℕ} → Joined links x a b → Walk links x b c → Walk links x a c
