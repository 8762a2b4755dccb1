-- Sets of masts. Assumes nothing.
use Rattle.std.specs.Prelude.{◌≡◌, ℕ, ◌^◌, Bool, true, false, ◌⊎◌, refl}
use Rattle.std.proofs.Common.{sym, ◌∙◌, ap, inl, inr, ⊎_elim}
use borrow.Author.Tests.{eq-eqb, eqb-true, clash}
use Rattle.std.proofs.lemmas.Bool.{or_cases, or_left, or_right}
use Rattle.states.specs.Sets.{bit}
use Rattle.states.proofs.Bits.{bit_of_or, bit_power, same_bits}
use Rattle.networks.specs.Networks.{with_mast}

-- a set with a mast holds that mast, what it held, and no other
pub bit_itself : (m s : ℕ) → bit m (with_mast m s) ≡ true
bit_itself m s = bit_of_or m s (2 ^ m) ∙ or_right (bit m s) _ (bit_power m m ∙ eq-eqb m m refl)

pub bit_kept : (m s k : ℕ) → bit k s ≡ true → bit k (with_mast m s) ≡ true
bit_kept m s k h = bit_of_or k s (2 ^ m) ∙ or_left (bit k s) _ h

pub bit_alone : (m k : ℕ) → bit k (2 ^ m) ≡ true → k ≡ m
bit_alone m k h = eqb-true k m (sym (bit_power k m) ∙ h)

pub bit_cases : (m s k : ℕ) → bit k (with_mast m s) ≡ true → (k ≡ m) ⊎ (bit k s ≡ true)
bit_cases m s k h =
    ⊎_elim (λ t. inr t) (λ t. inl (bit_alone m k t)) (or_cases (bit k s) (bit k (2 ^ m)) (sym (bit_of_or k s (2 ^ m)) ∙ h))

-- a mast that is there already adds nothing
pub with_same : (m s : ℕ) → bit m s ≡ true → with_mast m s ≡ s
with_same m s h = same_bits (with_mast m s) s (λ k. go k (bit k s) refl)
  where
    go : (k : ℕ) (b : Bool) → bit k s ≡ b → bit k (with_mast m s) ≡ bit k s
    go k true e = bit_kept m s k e ∙ sym e
    go k false e = lacks k e (bit k (with_mast m s)) refl
      where
        lacks : (k : ℕ) → bit k s ≡ false → (b : Bool) → bit k (with_mast m s) ≡ b → bit k (with_mast m s) ≡ bit k s
        lacks k e true t = ⊎_elim (λ same. absurd (clash (sym e ∙ (ap (λ n. bit n s) same ∙ h)))) (λ u. t ∙ sym u) (bit_cases m s k t)
        lacks k e false t = t ∙ sym e
