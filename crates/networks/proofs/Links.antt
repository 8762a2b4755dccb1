-- A pass over the links of a network. Assumes nothing.
use Rattle.std.proofs.Common.{◌≡◌, ℕ, ◌<◌, Bool, true, false, List, [], ◌∷◌, ◌++◌, map, length, get_or, refl, ap, sym, ◌∙◌}
use Rattle.std.specs.List.{list_any}
use Rattle.std.proofs.lemmas.List.Folds.{list_any_at}
use Rattle.std.proofs.lemmas.List.{map_push}
use borrow.Author.Tests.{clash}
use Rattle.networks.specs.Networks.{over_link, one_round, link_of, links_of, network_works}
use Rattle.networks.specs.Rounds.{walk_works, known_wires}
use Rattle.networks.specs.Walks.{Walk}
use Rattle.networks.specs.declared.link.Link.{Link}
use Rattle.networks.specs.declared.network.Network.{Network}
use Rattle.networks.specs.declared.wire.Wire.{Wire}

-- where no link passes a test, one at a place does not
pub none_at : (test : Link → Bool) (ls : List Link) (i : ℕ) (d : Link) → list_any test ls ≡ false → i < length ls → test (get_or ls i d) ≡ false
none_at test ls i d none inside = go (test (get_or ls i d)) refl
  where
    go : (b : Bool) → test (get_or ls i d) ≡ b → b ≡ false
    go true passes = absurd (clash (sym none ∙ list_any_at test ls i d inside passes))
    go false fails = refl

-- one link more
round_more : (x : ℕ) (ls : List Link) (l : Link) (s : ℕ) → one_round x (ls ++ l ∷ []) s ≡ over_link x l (one_round x ls s)
round_more x [] l s = refl
round_more x (first ∷ ls) l s = round_more x ls l (over_link x first s)

pub round_over : (x : ℕ) (wires : List Wire) (wire : Wire) (s t u : ℕ) → t ≡ one_round x (map link_of wires) s → u ≡ over_link x (link_of wire) t → u ≡ one_round x (map link_of (wires ++ wire ∷ [])) s
round_over x wires wire s t u before after =
    after ∙ ap (over_link x (link_of wire)) before ∙ sym (round_more x (map link_of wires) (link_of wire) s) ∙ ap (λ ls. one_round x ls s) (sym (map_push link_of wires wire))

-- the terminals of a network that a walk joins are joined by its rounds
pub walk_joins : (net : Network) (x : ℕ) → Walk (links_of net) x net.from.number net.to.number → network_works net.from.number net.to.number (links_of net) x ≡ true
walk_joins net x w = walk_works _ _ _ _ (known_wires net.wires.items) net.from.known w
