-- Rounds over the links of a network reach what walks over sound links do. Assumes nothing.
use Rattle.std.specs.Prelude.{◌≡◌, ℕ, zero, suc, pred, ◌+◌, ◌^◌, ◌<◌, ◌≤◌, Bool, true, false, cond, not, ◌||◌, ◌⊎◌, List, [], ◌∷◌, map, refl}
use Rattle.std.proofs.Common.{sym, ◌∙◌, ap, subst, inl, inr, ⊎_elim, add-one, arith}
use borrow.Author.Tests.{eq-eqb, clash}
use Rattle.std.proofs.lemmas.Bool.{and_parts, and_from, or_cases, or_left, or_right, not-true, not_from_false, cond-true, cond-false}
use Rattle.states.proofs.Sizes.{Inside, size_le, size_mono, size_more}
use Rattle.states.specs.Sets.{size, bit, has, Within}
use Rattle.states.proofs.Bits.{bit_power, bit_nothing}
use Rattle.states.proofs.Sets.{sound_within}
use Rattle.networks.specs.Networks.{with_mast, leads_on, over_link, one_round, rounds, network_works, link_of}
use Rattle.networks.specs.Walks.{Ends, Joined, Walk}
use Rattle.networks.specs.Walks.Walk.{here, on}
use Rattle.networks.specs.declared.link.Link.{Link}
use Rattle.networks.specs.declared.wire.Wire.{Wire}
use Rattle.networks.specs.Masts.{bit_itself, bit_kept, bit_alone, bit_cases, with_same}

-- one round more
pub rounds_more : (n x : ℕ) (ls : List Link) (s : ℕ) → rounds (n + 1) x ls s ≡ one_round x ls (rounds n x ls s)
unfolding rounds
rounds_more n x ls s = rw add-one

-- what is reached stays reached
over_kept : (x : ℕ) (l : Link) (s : ℕ) → Inside s (over_link x l s)
over_kept x l s k h = go (leads_on x l s)
  where
    go : (b : Bool) → bit k (cond b (with_mast l.other (with_mast l.one s)) s) ≡ true
    go true = bit_kept l.other (with_mast l.one s) k (bit_kept l.one s k h)
    go false = h

round_kept : (x : ℕ) (ls : List Link) (s : ℕ) → Inside s (one_round x ls s)
round_kept x [] s k h = h
round_kept x (l ∷ ls) s k h = round_kept x ls (over_link x l s) k (over_kept x l s k h)

pub rounds_kept : (n x : ℕ) (ls : List Link) (s : ℕ) → Inside s (rounds n x ls s)
unfolding rounds
rounds_kept zero x ls s k h = h
rounds_kept (suc n) x ls s k h = round_kept x ls (rounds n x ls s) k (rounds_kept n x ls s k h)

-- joined ends hand on what P says of a mast
abbrev HandsOn : (ℕ → Type 0) → List Link → ℕ → Type 0
HandsOn P ls x = (a b : ℕ) → Joined ls x a b → P a → P b

-- P holds of every mast of s
abbrev OfAll : (ℕ → Type 0) → ℕ → Type 0
OfAll P s = (k : ℕ) → bit k s ≡ true → P k

over_all : (P : ℕ → Type 0) (x : ℕ) (l : Link) (ls : List Link) (s : ℕ) → HandsOn P (l ∷ ls) x → OfAll P s → OfAll P (over_link x l s)
over_all P x l ls s hands all k = go (leads_on x l s) refl
  where
    ends : leads_on x l s ≡ true → P l.one × P l.other
    ends e =
        let p = and_parts (not (has l.part x)) (bit l.one s || bit l.other s) e in
        let sound = not-true (has l.part x) p.0 in
        ⊎_elim (λ h. (all l.one h, hands l.one l.other (inl (sound, inl (refl, refl))) (all l.one h)))
        (λ h. (hands l.other l.one (inl (sound, inr (refl, refl))) (all l.other h), all l.other h))
        (or_cases (bit l.one s) (bit l.other s) p.1)

    go : (b : Bool) → leads_on x l s ≡ b → bit k (cond b (with_mast l.other (with_mast l.one s)) s) ≡ true → P k
    go false e t = all k t
    go true e t =
        ⊎_elim (λ same. subst P (sym same) (ends e).1)
        (λ u. ⊎_elim (λ same. subst P (sym same) (ends e).0) (all k) (bit_cases l.one s k u))
        (bit_cases l.other (with_mast l.one s) k t)

round_all : (P : ℕ → Type 0) (x : ℕ) (ls : List Link) (s : ℕ) → HandsOn P ls x → OfAll P s → OfAll P (one_round x ls s)
round_all P x [] s hands all = all
round_all P x (l ∷ ls) s hands all = round_all P x ls (over_link x l s) (λ a b j. hands a b (inr j)) (over_all P x l ls s hands all)

rounds_all : (P : ℕ → Type 0) (n x : ℕ) (ls : List Link) (s : ℕ) → HandsOn P ls x → OfAll P s → OfAll P (rounds n x ls s)
unfolding rounds
rounds_all P zero x ls s hands all = all
rounds_all P (suc n) x ls s hands all = round_all P x ls (rounds n x ls s) hands (rounds_all P n x ls s hands all)

-- a walk, one step longer
one_on : (ls : List Link) (x : ℕ) {a b c : ℕ} → Walk ls x a b → Joined ls x b c → Walk ls x a c
one_on ls x here j = on j here
one_on ls x (on i w) j = on i (one_on ls x w j)

-- a mast that is reached has a walk to it
pub works_walk : (from to : ℕ) (ls : List Link) (x : ℕ) → network_works from to ls x ≡ true → Walk ls x from to
unfolding network_works
works_walk from to ls x h =
    rounds_all (λ m. Walk ls x from m) 16 x ls (2 ^ from) (λ a b j w. one_on ls x w j)
    (λ k t. subst (λ m. Walk ls x from m) (sym (bit_alone from k t)) here) to h

-- no joined end leads out of s
abbrev Closed : List Link → ℕ → ℕ → Type 0
Closed ls x s = HandsOn (λ m. bit m s ≡ true) ls x

-- a walk stays in such a set
stays : (ls : List Link) (x s : ℕ) → Closed ls x s → {a b : ℕ} → Walk ls x a b → bit a s ≡ true → bit b s ≡ true
stays ls x s closed here h = h
stays ls x s closed (on j w) h = stays ls x s closed w (closed _ _ j h)

-- the ends of the links are masts
abbrev pub Known : List Link → Type 0
Known [] = Unit {0}
Known (l ∷ ls) = (l.one ≤ 15) × (l.other ≤ 15) × Known ls

pub known_wires : (ws : List Wire) → Known (map link_of ws)
known_wires [] = tt
known_wires (w ∷ ws) = (w.one.known, w.other.known, known_wires ws)

-- a link adds a mast, or it adds nothing and does not lead out
module _ (x : ℕ) (l : Link) (s : ℕ) (one : l.one ≤ 15) (other : l.other ≤ 15) where
  abbrev Stays : Type 0
  Stays = (over_link x l s ≡ s) × ((a b : ℕ) → has l.part x ≡ false → Ends l a b → bit a s ≡ true → bit b s ≡ true)

  abbrev both : ℕ
  both = with_mast l.other (with_mast l.one s)

  stops : leads_on x l s ≡ false → Stays
  stops e = (cond-false (leads_on x l s) both s e, out)
    where
      out : (a b : ℕ) → has l.part x ≡ false → Ends l a b → bit a s ≡ true → bit b s ≡ true
      out a b sound ends h =
          let end : (bit l.one s || bit l.other s) ≡ true = ⊎_elim (λ p. or_left (bit l.one s) (bit l.other s) (ap (λ m. bit m s) p.0 ∙ h)) (λ p. or_right (bit l.one s) (bit l.other s) (ap (λ m. bit m s) p.1 ∙ h)) ends in
          absurd (clash (sym e ∙ and_from (not (has l.part x)) (bit l.one s || bit l.other s) (not_from_false _ sound) end))

  leads : leads_on x l s ≡ true → (p q : Bool) → bit l.one s ≡ p → bit l.other s ≡ q → Stays ⊎ (size 16 s < size 16 (over_link x l s))
  leads e true true hp hq = inl (made ∙ same, λ a b sound ends h. ⊎_elim (λ p. ap (λ m. bit m s) (sym p.1) ∙ hq) (λ p. ap (λ m. bit m s) (sym p.0) ∙ hp) ends)
    where
      made : over_link x l s ≡ both
      made = cond-true (leads_on x l s) both s e

      same : both ≡ s
      same = ap (with_mast l.other) (with_same l.one s hp) ∙ with_same l.other s hq
  leads e false q hp hq = inr (size_more 16 s (over_link x l s) l.one (over_kept x l s) (omega arith) hp (ap (bit l.one) (cond-true (leads_on x l s) both s e) ∙ bit_kept l.other (with_mast l.one s) l.one (bit_itself l.one s)))
  leads e true false hp hq = inr (size_more 16 s (over_link x l s) l.other (over_kept x l s) (omega arith) hq (ap (bit l.other) (cond-true (leads_on x l s) both s e) ∙ bit_itself l.other (with_mast l.one s)))

  over_either : Stays ⊎ (size 16 s < size 16 (over_link x l s))
  over_either = go (leads_on x l s) refl
    where
      go : (b : Bool) → leads_on x l s ≡ b → Stays ⊎ (size 16 s < size 16 (over_link x l s))
      go true e = leads e (bit l.one s) (bit l.other s) refl refl
      go false e = inl (stops e)

-- a round adds a mast, or it adds nothing and nothing leads out
abbrev Settled : List Link → ℕ → ℕ → Type 0
Settled ls x s = (one_round x ls s ≡ s) × Closed ls x s

round_either : (x : ℕ) (ls : List Link) (s : ℕ) → Known ls → Settled ls x s ⊎ (size 16 s < size 16 (one_round x ls s))
round_either x [] s known = inl (refl, λ a b j h. absurd j)
round_either x (l ∷ ls) s known =
    ⊎_elim (λ link. others link (round_either x ls s known.2))
    (λ lt. inr (omega (arith, lt, size_mono 16 (over_link x l s) (one_round x ls (over_link x l s)) (round_kept x ls (over_link x l s)))))
    (over_either x l s known.0 known.1)
  where
    others : Stays x l s known.0 known.1 → Settled ls x s ⊎ (size 16 s < size 16 (one_round x ls s)) → Settled (l ∷ ls) x s ⊎ (size 16 s < size 16 (one_round x ls (over_link x l s)))
    others link (inl rest) =
        inl (ap (one_round x ls) link.0 ∙ rest.0, λ a b j h. ⊎_elim (λ p. link.1 a b p.0 p.1 h) (λ i. rest.1 a b i h) j)
    others link (inr lt) = inr (omega (arith, lt, ap (λ n. size 16 (one_round x ls n)) link.0))

-- n rounds settle, or reach more than n masts
rounds_either : (n x : ℕ) (ls : List Link) (from : ℕ) → Known ls → from ≤ 15 → Settled ls x (rounds n x ls (2 ^ from)) ⊎ (n < size 16 (rounds n x ls (2 ^ from)))
unfolding rounds
rounds_either zero x ls from known h =
    inr (omega (arith, size_more 16 0 (2 ^ from) from (λ k t. absurd (clash (sym (bit_nothing k) ∙ t))) (omega arith) (bit_nothing from) (bit_power from from ∙ eq-eqb from from refl)))
rounds_either (suc n) x ls from known h =
    ⊎_elim again (λ lt. ⊎_elim again (λ more. inr (omega (arith, lt, more))) (round_either x ls (rounds n x ls (2 ^ from)) known))
    (rounds_either n x ls from known h)
  where
    again : Settled ls x (rounds n x ls (2 ^ from)) → Settled ls x (one_round x ls (rounds n x ls (2 ^ from))) ⊎ (suc n < size 16 (one_round x ls (rounds n x ls (2 ^ from))))
    again settled = inl (subst (λ s. Settled ls x s) (sym settled.0) settled)

all_closed : (x : ℕ) (ls : List Link) (from : ℕ) → Known ls → from ≤ 15 → Closed ls x (rounds 16 x ls (2 ^ from))
all_closed x ls from known h =
    ⊎_elim (λ settled. settled.1) (λ lt. absurd (omega (arith, lt, size_le 16 (rounds 16 x ls (2 ^ from))))) (rounds_either 16 x ls from known h)

-- a mast with a walk to it is reached
pub walk_works : (from to : ℕ) (ls : List Link) (x : ℕ) → Known ls → from ≤ 15 → Walk ls x from to → network_works from to ls x ≡ true
unfolding network_works
walk_works from to ls x known h w =
    stays ls x (rounds 16 x ls (2 ^ from)) (all_closed x ls from known h) w
    (rounds_kept 16 x ls (2 ^ from) from (bit_power from from ∙ eq-eqb from from refl))

-- what is joined in a state is joined in every state that it contains
joined_within : (ls : List Link) (x y a b : ℕ) → Within x y → Joined ls y a b → Joined ls x a b
joined_within [] x y a b w j = j
joined_within (l ∷ ls) x y a b w (inl p) = inl (sound_within x y (pred l.part) w p.0, p.1)
joined_within (l ∷ ls) x y a b w (inr j) = inr (joined_within ls x y a b w j)

walk_within : (ls : List Link) (x y : ℕ) → Within x y → {a b : ℕ} → Walk ls y a b → Walk ls x a b
walk_within ls x y w here = here
walk_within ls x y w (on j rest) = on (joined_within ls x y _ _ w j) (walk_within ls x y w rest)

pub network_contained : (from to : ℕ) (ls : List Link) (x y : ℕ) → Known ls → from ≤ 15 → Within x y → network_works from to ls y ≡ true → network_works from to ls x ≡ true
network_contained from to ls x y known h w works = walk_works from to ls x known h (walk_within ls x y w (works_walk from to ls y works))

-- equal terminals are joined in every state
pub same_terminals : (t : ℕ) (ls : List Link) (x : ℕ) → network_works t t ls x ≡ true
unfolding network_works
same_terminals t ls x = rounds_kept 16 x ls (2 ^ t) t (bit_power t t ∙ eq-eqb t t refl)
