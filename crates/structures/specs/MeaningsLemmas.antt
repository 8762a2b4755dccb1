-- The law of each structure and layer: what works in a state works in every state that it contains. Assumes nothing.
use Rattle.std.specs.Prelude.{◌≡◌, ℕ, zero, suc, pred, ◌+◌, ◌^◌, ◌<◌, ◌≤◌, Bool, true, false, cond, not, ◌&&◌, List, [], ◌∷◌, refl}
use Rattle.std.proofs.Common.{ap₂, ⊎_elim, le_trans, arith}
use borrow.Author.Tests.{le-leb, leb-true, clash}
use Rattle.std.proofs.lemmas.Bool.{and_parts, and_from, or_cases, or_left, or_right, not-true, not_from_false}
use Rattle.states.specs.Sets.{bit, has, disjoint, difference, size, Within}
use Rattle.states.proofs.Sets.{disjoint_within, sound_within, within_bit, with_within, without_within, with_fits, without_fits, bit_difference}
use Rattle.structures.specs.Meanings.{KeepsContained, path_list_works, sound_parts, quorum_works, feed_works, bypass_works, given_state}
use Rattle.structures.specs.declared.given.Condition.{Condition}
use Rattle.structures.specs.declared.given.Condition.TheVariants.{Sound, Failed}

pub path_list_contained : (paths : List ℕ) (x y : ℕ) → Within x y → path_list_works paths y ≡ true → path_list_works paths x ≡ true
path_list_contained [] x y w h = h
path_list_contained (p ∷ ps) x y w h =
    ⊎_elim (λ d. or_left (disjoint p x) _ (disjoint_within p x y w d))
    (λ r. or_right (disjoint p x) _ (path_list_contained ps x y w r))
    (or_cases (disjoint p y) (path_list_works ps y) h)

pub feed_contained : (part : ℕ) (below : ℕ → Bool) (x y : ℕ) → Within x y → (below y ≡ true → below x ≡ true) → feed_works part below y ≡ true → feed_works part below x ≡ true
feed_contained part below x y w lower h =
    let both = and_parts (not (has part y)) (below y) h in
    and_from (not (has part x)) (below x) (not_from_false _ (sound_within x y (pred part) w (not-true _ both.0))) (lower both.1)

pub bypass_contained : (part : ℕ) (below : ℕ → Bool) (x y : ℕ) → Within x y → (below y ≡ true → below x ≡ true) → bypass_works part below y ≡ true → bypass_works part below x ≡ true
bypass_contained part below x y w lower h =
    ⊎_elim (λ s. or_left (not (has part x)) _ (not_from_false _ (sound_within x y (pred part) w (not-true _ s))))
    (λ b. or_right (not (has part x)) _ (lower b))
    (or_cases (not (has part y)) (below y) h)

-- a structure asked at states that a map which keeps containment and the bound passes down keeps the law
pub mapped_contained : (f : ℕ → ℕ) (below : ℕ → Bool) → ((x y : ℕ) → Within x y → Within (f x) (f y)) → ((x : ℕ) → x < 2 ^ 40 → f x < 2 ^ 40)
    → KeepsContained below → KeepsContained (λ x. below (f x))
mapped_contained f below keeps fits law x y h w = law (f x) (f y) (fits y h) (keeps x y w)

pub given_within : (c : Condition) (part x y : ℕ) → Within x y → Within (given_state c part x) (given_state c part y)
given_within Sound part x y w = without_within part x y w
given_within Failed part x y w = with_within part x y w

pub given_fits : (c : Condition) (part : ℕ) → part ≤ 40 → (x : ℕ) → x < 2 ^ 40 → given_state c part x < 2 ^ 40
given_fits Sound part h x f = without_fits part x f
given_fits Failed part h x f = with_fits part x h f

-- the sound parts of a set
pub sound_size : (n set x : ℕ) → size n (difference set x) ≡ sound_parts n set x
unfolding size sound_parts
sound_size zero set x = refl
sound_size (suc n) set x = ap₂ (λ b k. cond b 1 0 + k) (bit_difference n set x) (sound_size n set x)

sound_more : (n set x y : ℕ) → Within x y → sound_parts n set y ≤ sound_parts n set x
unfolding sound_parts
sound_more zero set x y w = omega arith
sound_more (suc n) set x y w = go (bit n set) (bit n x) (bit n y) (within_bit x y n w) (sound_more n set x y w)
  where
    go : (s a b : Bool) → (a ≡ true → b ≡ true) → sound_parts n set y ≤ sound_parts n set x
        → cond (s && not b) 1 0 + sound_parts n set y ≤ cond (s && not a) 1 0 + sound_parts n set x
    go true true true f ih = omega arith
    go true true false f ih = absurd (clash (f refl))
    go true false true f ih = omega arith
    go true false false f ih = omega arith
    go false a b f ih = omega arith

pub quorum_contained : (count set x y : ℕ) → Within x y → quorum_works count set y ≡ true → quorum_works count set x ≡ true
quorum_contained count set x y w h = le-leb _ _ (le_trans (leb-true _ _ h) (sound_more 40 set x y w))
