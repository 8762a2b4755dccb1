use Rattle.std.specs.Prelude.{◌≡◌, Bool, true, false, not, ◌&&◌, refl}
use Rattle.std.proofs.Common.{sym, ◌∙◌, ap}
use borrow.Author.Tests.{clash}

-- what has failed in a contained state has failed
pub both : (a b c d : Bool) → (a ≡ true → c ≡ true) → (b ≡ true → d ≡ true) → not (c && d) ≡ true → not (a && b) ≡ true
both true true c d f g h = absurd (clash (sym (ap not (both_true c d (f refl) (g refl))) ∙ h))
  where
    both_true : (c d : Bool) → c ≡ true → d ≡ true → (c && d) ≡ true
    both_true true d e e' = e'
    both_true false d e e' = e
both true false c d f g h = refl
both false b c d f g h = refl
