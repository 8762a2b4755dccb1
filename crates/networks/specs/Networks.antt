-- What a network means, and what its making answers. Assumes nothing.
use Rattle.std.specs.Prelude.{◌≡◌, ℕ, zero, suc, ◌^◌, Bool, cond, not, ◌&&◌, ◌||◌, List, [], ◌∷◌, map, length, Ok, Err, vec_items, Result, bit_or, nat_lt}
use Rattle.std.specs.List.{list_any}
use Rattle.states.specs.Sets.{bit, has}
use Rattle.networks.specs.Refusals.{network_refusal}
use Rattle.networks.specs.declared.link.Link.{Link}
use Rattle.networks.specs.declared.network.Network.{Network}
use Rattle.networks.specs.declared.wire.Wire.{Wire}
use Rattle.networks.specs.declared.refusal.NetworkError.{NetworkError}

-- a set of masts has a binary place for each: the set with the mast m as well
abbrev pub with_mast : ℕ → ℕ → ℕ
with_mast m masts = bit_or masts (2 ^ m)

-- the link leads on: its part is sound in the state x, and one of its ends is reached
abbrev pub leads_on : ℕ → Link → ℕ → Bool
leads_on x l reached = not (has l.part x) && (bit l.one reached || bit l.other reached)

-- the masts reached, with both ends of a link that leads on
abbrev pub over_link : ℕ → Link → ℕ → ℕ
over_link x l reached = cond (leads_on x l reached) (with_mast l.other (with_mast l.one reached)) reached

-- a pass over all links
abbrev pub one_round : ℕ → List Link → ℕ → ℕ
one_round x [] reached = reached
one_round x (l ∷ ls) reached = one_round x ls (over_link x l reached)

-- n passes
unfoldable pub rounds : ℕ → ℕ → List Link → ℕ → ℕ
rounds zero x ls reached = reached
rounds (suc n) x ls reached = one_round x ls (rounds n x ls reached)

-- network: 16 rounds from one terminal reach the other. That they reach all that walks over sound links do is proved
-- (Walks.antt has the walks).
unfoldable pub network_works : ℕ → ℕ → List Link → ℕ → Bool
network_works from to links x = bit to (rounds 16 x links (2 ^ from))

-- the numbers of a typed link
abbrev pub link_of : Wire → Link
link_of w = record { one = w.one.number; other = w.other.number; part = w.part.number }

-- the links of a network as they were brought
abbrev pub links_of : Network → List Link
links_of net = map link_of (vec_items net.wires)

-- an end of the link is above 15
abbrev pub end_too_high : Link → Bool
end_too_high l = nat_lt 15 l.one || nat_lt 15 l.other

-- the link's part is not 1 to 40
abbrev pub part_unknown : Link → Bool
part_unknown l = nat_lt l.part 1 || nat_lt 40 l.part

-- a terminal or an end of some link is above 15
abbrev pub some_mast_too_high : ℕ → ℕ → List Link → Bool
some_mast_too_high from to links = nat_lt 15 from || (nat_lt 15 to || list_any end_too_high links)

-- the refusal that terminals and links meet; [] where they are a network
abbrev pub network_refused : ℕ → ℕ → List Link → List ℕ
network_refused from to links =
    cond (nat_lt 64 (length links)) (8 ∷ [])
    (cond (some_mast_too_high from to links) (9 ∷ [])
    (cond (list_any part_unknown links) (10 ∷ []) []))

-- a network is made of these terminals and links, or refused, for their fault or for want of memory
abbrev pub Wired : ℕ → ℕ → List Link → Result Network NetworkError → Type 0
Wired from to links (Ok net) = (network_refused from to links ≡ []) × (net.from.number ≡ from) × (net.to.number ≡ to) × (links_of net ≡ links)
Wired from to links (Err e) = network_refusal e ≡ network_refused from to links
