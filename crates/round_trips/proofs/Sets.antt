-- A set's number and the rising numbers of its parts. Assumes nothing.
use Rattle.std.proofs.Common.{◌≡◌, ℕ, zero, suc, pred, ◌+◌, ◌%◌, ◌^◌, ◌<◌, ◌≤◌, ◌⊎◌, Bool, true, false, cond, ◌&&◌, ltb, leb, List, [], ◌∷◌, ◌++◌, length, sym, refl, ap, ◌∙◌, subst, inl, inr, ⊎_elim, arith, mod-eq_of_lt, lit<, lt-ltb, le-leb, ltb-true}
use native.Mathlib.Nat.{two-pow-succ, mod-one}
use borrow.Author.Tests.{leb-true}
use Rattle.std.proofs.lemmas.Bool.{cond-true, and_from, and_parts, cases_lt}
use Rattle.states.proofs.Bits.{bit_low, bit_beyond, bit_highest, low_more}
use Rattle.states.specs.Sets.{bit, has}
use Rattle.sheet_lines.specs.Texts.{members}
use Rattle.sheet_reading.specs.Numbers.{Short}
use Rattle.sheet_reading.specs.Paths.{first_off, set_of}
use Rattle.sheet_writing.proofs.Lines.{with_part, without_part}

-- these numbers rise, from above low up to n
unfoldable pub Rises : ℕ → ℕ → List ℕ → Type 0
Rises low n [] = Unit {0}
Rises low n (m ∷ ms) = (low < m) × (m ≤ n) × Rises m n ms

rises_lower : (low lower n : ℕ) (ms : List ℕ) → lower ≤ low → Rises low n ms → Rises lower n ms
unfolding Rises
rises_lower low lower n [] h r = tt
rises_lower low lower n (m ∷ ms) h r = (omega (arith, h, r.0), r.1, r.2)

rises_higher : (low n n' : ℕ) (ms : List ℕ) → n ≤ n' → Rises low n ms → Rises low n' ms
unfolding Rises
rises_higher low n n' [] h r = tt
rises_higher low n n' (m ∷ ms) h r = (r.0, omega (arith, h, r.1), rises_higher m n n' ms h r.2)

-- that is what the rule of a path's numbers says
pub none_off : (low n i : ℕ) (ms : List ℕ) → Rises low n ms → first_off n low i ms ≡ []
unfolding Rises
none_off low n i [] r = refl
none_off low n i (m ∷ ms) r = cond-true (ltb low m && leb m n) _ _ (and_from (ltb low m) (leb m n) (lt-ltb low m r.0) (le-leb m n r.1)) ∙ none_off m n (suc i) ms r.2

pub rises : (low n i : ℕ) (ms : List ℕ) → first_off n low i ms ≡ [] → Rises low n ms
unfolding Rises
rises low n i [] e = tt
rises low n i (m ∷ ms) e = go (λ rest. rises m n (suc i) ms rest) (ltb low m && leb m n) refl e
  where
    go : (first_off n m (suc i) ms ≡ [] → Rises m n ms) → (b : Bool) → b ≡ (ltb low m && leb m n) → cond b (first_off n m (suc i) ms) (i ∷ []) ≡ [] → (low < m) × (m ≤ n) × Rises m n ms
    go others true is rest =
        let both = and_parts (ltb low m) (leb m n) (sym is) in
        (ltb-true low m both.0, leb-true m n both.1, others rest)
    go others false is rest = absurd cc

-- the members of a set rise
members_rise_before : (n top x : ℕ) (ns : List ℕ) → n ≤ top → Rises n top ns → Rises 0 top (members n x ns)
unfolding members Rises
members_rise_before zero top x ns h r = r
members_rise_before (suc n) top x ns h r = go (λ ms. members_rise_before n top x ms (omega (arith, h))) (has (suc n) x)
  where
    go : ((ms : List ℕ) → Rises n top ms → Rises 0 top (members n x ms)) → (b : Bool) → Rises 0 top (members n x (cond b (suc n ∷ ns) ns))
    go before true = before (suc n ∷ ns) (omega arith, h, r)
    go before false = before ns (rises_lower (suc n) n top ns (omega arith) r)

pub members_rise : (n x : ℕ) → Rises 0 n (members n x [])
unfolding Rises
members_rise n x = members_rise_before n n x [] (omega arith) tt

-- and their set is that set
set_push : (ms : List ℕ) (m : ℕ) → set_of (ms ++ m ∷ []) ≡ set_of ms + 2 ^ pred m
set_push [] m = omega arith
set_push (k ∷ ks) m = omega (arith, set_push ks m)

set_low : (n x : ℕ) → set_of (members n x []) ≡ x % 2 ^ n
unfolding members bit
set_low zero x = sym (mod-one x)
set_low (suc n) x = go (has (suc n) x) refl (set_low n x)
  where
    go : (b : Bool) → b ≡ has (suc n) x → set_of (members n x []) ≡ x % 2 ^ n → set_of (members (suc n) x []) ≡ x % 2 ^ suc n
    go true is ih = ap set_of (with_part n x (sym is)) ∙ set_push (members n x []) (suc n) ∙ omega (arith, ih, low_more n x ∙ ap (λ b. cond b (2 ^ n + x % 2 ^ n) (x % 2 ^ n)) (sym is))
    go false is ih = ap set_of (without_part n x (sym is)) ∙ ih ∙ sym (low_more n x ∙ ap (λ b. cond b (2 ^ n + x % 2 ^ n) (x % 2 ^ n)) (sym is))

pub set_back : (n x : ℕ) → x < 2 ^ n → set_of (members n x []) ≡ x
set_back n x on_sheet = set_low n x ∙ mod-eq_of_lt on_sheet

-- numbers that rise up to n + 1 end with it, or rise up to n
abbrev Ends : ℕ → ℕ → List ℕ → Type 0
Ends n low ms = Rises low n ms ⊎ ((ks : List ℕ) × Rises low n ks × (ms ≡ ks ++ suc n ∷ []) × (low ≤ n))

none_after : (n : ℕ) (ms : List ℕ) → Rises n n ms → ms ≡ []
unfolding Rises
none_after n [] r = refl
none_after n (m ∷ ms) r = absurd (omega (arith, r.0, r.1))

ends : (n low : ℕ) (ms : List ℕ) → Rises low (suc n) ms → Ends n low ms
unfolding Rises
ends n low [] r = inl tt
ends n low (m ∷ ms) r = ⊎_elim (λ h. within h (ends n m ms r.2)) last (cases_lt m (suc n))
  where
    within : m < suc n → Ends n m ms → Ends n low (m ∷ ms)
    within h (inl others) = inl (r.0, omega (arith, h), others)
    within h (inr (ks, others, e, above)) = inr (m ∷ ks, (r.0, above, others), ap (λ v. m ∷ v) e, omega (arith, r.0, h))

    last : suc n ≤ m → Ends n low (m ∷ ms)
    last h =
        let is : m ≡ suc n = omega (arith, h, r.1) in
        let none : ms ≡ [] = none_after (suc n) ms (subst (λ k. Rises k (suc n) ms) is r.2) in
        inr ([], tt, (ap (λ v. m ∷ v) none ∙ ap (λ k. k ∷ []) is), omega (arith, r.0, is))

-- members are told by the places up to n
members_same : (n x y : ℕ) (ns : List ℕ) → ((k : ℕ) → k < n → bit k x ≡ bit k y) → members n x ns ≡ members n y ns
unfolding members
members_same zero x y ns same = refl
members_same (suc n) x y ns same =
    ap (λ b. members n x (cond b (suc n ∷ ns) ns)) (same n (omega arith)) ∙ members_same n x y (cond (bit n y) (suc n ∷ ns) ns) (λ k h. same k (omega (arith, h)))

-- a set is that of its members, which are the numbers it was made of
abbrev pub IsSetOf : ℕ → List ℕ → Type 0
IsSetOf n ms = (set_of ms < 2 ^ n) × (members n (set_of ms) [] ≡ ms)

pub set_of_rising : (n : ℕ) (ms : List ℕ) → Rises 0 n ms → IsSetOf n ms
unfolding Rises members
set_of_rising zero [] r = (lit< tt, refl)
set_of_rising zero (m ∷ ms) r = absurd (omega (arith, r.0, r.1))
set_of_rising (suc n) ms r = go (λ ks h. set_of_rising n ks h) (ends n 0 ms r)
  where
    go : ((ks : List ℕ) → Rises 0 n ks → IsSetOf n ks) → Ends n 0 ms → IsSetOf (suc n) ms
    go is (inl lower) =
        let (small, same) = is ms lower in
        (omega (arith, small, two-pow-succ n), without_part n (set_of ms) (bit_beyond n n (set_of ms) (omega arith) small) ∙ same)
    go is (inr (ks, lower, e, above)) =
        let (small, same) = is ks lower in
        let x = set_of ms in
        let grown : x ≡ set_of ks + 2 ^ n = ap set_of e ∙ set_push ks (suc n) in
        let fits : x < 2 ^ suc n = omega (arith, grown, small, two-pow-succ n) in
        let top : bit n x ≡ true = bit_highest n x (omega (arith, grown)) fits in
        let more : x ≡ 2 ^ n + x % 2 ^ n = sym (mod-eq_of_lt fits) ∙ low_more n x ∙ cond-true (bit n x) _ _ top in
        let rest : x % 2 ^ n ≡ set_of ks = omega (arith, grown, more) in
        let places : (k : ℕ) → k < n → bit k x ≡ bit k (set_of ks) = λ k h. sym (bit_low k n x h) ∙ ap (bit k) rest in
        (fits, with_part n x top ∙ ap (λ v. v ++ suc n ∷ []) (members_same n x (set_of ks) [] places ∙ same) ∙ sym e)

-- how many numbers rise up to n, and how great they are
pub rises_length : (low n : ℕ) (ms : List ℕ) → low ≤ n → Rises low n ms → low + length ms ≤ n
unfolding Rises
rises_length low n [] h r = omega (arith, h)
rises_length low n (m ∷ ms) h r = omega (arith, rises_length m n ms r.1 r.2, r.0)

pub rises_short : (low n : ℕ) (ms : List ℕ) → n ≤ 40 → Rises low n ms → Short ms
unfolding Rises
rises_short low n [] h r = tt
rises_short low n (m ∷ ms) h r = (omega (arith, h, r.1), rises_short m n ms h r.2)

-- the members of a set of parts make a path's line
pub some_members : (n x : ℕ) → 0 < x → x < 2 ^ n → 0 < length (members n x [])
some_members n x some on_sheet = go (members n x []) (set_back n x on_sheet)
  where
    go : (ms : List ℕ) → set_of ms ≡ x → 0 < length ms
    go [] e = absurd (omega (arith, e, some))
    go (m ∷ ms) e = omega arith
