-- The paths that a text holds are none that a path list refuses. Assumes nothing.
use Rattle.std.proofs.Common.{◌≡◌, ℕ, zero, suc, pred, ◌+◌, ◌^◌, ◌<◌, ◌≤◌, Bool, true, false, cond, ◌&&◌, ltb, leb, List, [], ◌∷◌, ◌++◌, length, take, drop, None, refl, ap, ◌∙◌, subst, sym, inr, arith, pow_mono, Ok, Err, Result}
use native.Mathlib.Nat.{two-pow-succ}
use borrow.Author.Tests.{ltb-true, leb-true}
use Rattle.std.specs.List.{AllByRecursion}
use Rattle.std.proofs.lemmas.List.{length_push}
use Rattle.std.proofs.Math.Seq.{take-append_seam}
use Rattle.std.specs.Result.{IfOk}
use Rattle.sheet.specs.declared.part.Part.{Part}
use Rattle.structures.specs.Paths.{first_too_high, paths_refused}
use Rattle.sheet_lines.specs.declared.kind.Kind.{Kind}
use Rattle.sheet_lines.specs.declared.kind.Kind.TheVariants as kind
use Rattle.sheet_reading.specs.Paths.{first_off, set_of}
use Rattle.sheet_reading.specs.Readings.{Row, Beginning, none, more, Holds, Gives, most_paths}
use Rattle.sheet_reading.specs.Rules.{Content, Rule, rules, rising, broken, Adds}
use Rattle.sheet_reading.specs.declared.found.Found.{Found}
use Rattle.sheet_reading.proofs.Beginnings.{few_held}
use Rattle.listing_text.specs.Outputs.{Lists, ListsText}
use Rattle.listing_text.specs.Stations.{station_with}

-- sets of parts up to 40
abbrev Low : List ℕ → Type 0
Low xs = AllByRecursion (λ x. x < 2 ^ 40) xs

low_push : (xs : List ℕ) (x : ℕ) → Low xs → x < 2 ^ 40 → Low (xs ++ x ∷ [])
low_push [] x low here = (here, tt)
low_push (y ∷ ys) x low here = (low.0, low_push ys x low.1 here)

none_too_high : (xs : List ℕ) → Low xs → first_too_high xs ≡ None
none_too_high [] low = refl
none_too_high (x ∷ xs) low = let rest = none_too_high xs low.1 in let here : x < 2 ^ 40 = low.0 in grind (arith, rest, here)

-- no rule was broken: the first is kept, and so are the others
first_kept : (kept : Bool) (number field : ℕ) (others : List ℕ) → cond kept others (number ∷ (field ∷ [])) ≡ [] → (kept ≡ true) × (others ≡ [])
first_kept true number field others e = (refl, e)
first_kept false number field others e = absurd cc

first_kept_place : (kept : Bool) (place : ℕ) (others : List ℕ) → cond kept others (place ∷ []) ≡ [] → (kept ≡ true) × (others ≡ [])
first_kept_place true place others e = (refl, e)
first_kept_place false place others e = absurd cc

both : (a b : Bool) → (a && b) ≡ true → (a ≡ true) × (b ≡ true)
both true true e = (refl, refl)
both true false e = absurd cc
both false b e = absurd cc

-- one more part below a set of later ones
one_more : (last m n set : ℕ) → last < m → set + 2 ^ m ≤ 2 ^ n → (2 ^ pred m + set) + 2 ^ last ≤ 2 ^ n
one_more last zero n set above rest = absurd (omega (arith, above))
one_more last (suc k) n set above rest =
    let upto : last ≤ k = omega arith in
    omega (arith, rest, two-pow-succ k, pow_mono {i = last} {j = k} upto)

-- the set of parts that rise up to n
rising_set : (n last i : ℕ) (ms : List ℕ) → last ≤ n → first_off n last i ms ≡ [] → set_of ms + 2 ^ last ≤ 2 ^ n
rising_set n last i [] le kept = omega (arith, pow_mono {i = last} {j = n} le)
rising_set n last i (m ∷ ms) le all =
    let kept = first_kept_place (ltb last m && leb m n) i (first_off n m (suc i) ms) all in
    let parts = both (ltb last m) (leb m n) kept.0 in
    one_more last m n (set_of ms) (ltb-true last m parts.0) (rising_set n m (suc i) ms (leb-true m n parts.1) kept.1)

all_rise : (xs : List ℕ) → (rising xs).kept ≡ true → xs ≡ []
all_rise [] e = refl
all_rise (x ∷ xs) e = absurd cc

-- the rules after the first are kept too
broken_after : (i : ℕ) (rs : List Rule) → broken rs ≡ [] → broken (drop i rs) ≡ []
broken_after zero rs kept = kept
broken_after (suc i) [] kept = refl
broken_after (suc i) (r ∷ rs) kept = broken_after i rs (first_kept r.kept r.number r.field (broken rs) kept).1

-- at most 40 parts, and paths over them
record Held (c : Content) : Type 0 where
  parts : length c.parts ≤ 40
  paths : Low c.paths

held_step : (most : ℕ) (c : Content) (k : Kind) (ns : List ℕ) (d : Content) → broken (rules most c k ns) ≡ [] → Adds c k ns d → Held c → Held d
held_step most c kind.Part ns d kept adds held =
    let others = broken_after 1 (rules most c kind.Part ns) kept in
    let second = first_kept (ltb (length c.parts) 40) 5 2 _ others in
    subst Held (sym adds.3) (record {
      parts = omega (arith, ltb-true (length c.parts) 40 second.0, length_push c.parts adds.0);
      paths = held.paths;
    })
held_step most c kind.Path ns d kept adds held =
    let wrong = rising (first_off (length c.parts) 0 2 ns) in
    let second = first_kept wrong.kept wrong.number wrong.field _ (broken_after 1 (rules most c kind.Path ns) kept) in
    let set = rising_set (length c.parts) 0 2 ns (omega arith) (all_rise (first_off (length c.parts) 0 2 ns) second.0) in
    let small : 2 ^ length c.parts ≤ 2 ^ 40 = pow_mono {i = length c.parts} {j = 40} held.parts in
    subst Held (sym adds) (record {
      parts = held.parts;
      paths = low_push c.paths (set_of ns) held.paths (omega (arith, set, small));
    })
held_step most c kind.Feed ns d kept adds held = subst Held (sym adds) (record { parts = held.parts; paths = held.paths })

held_by : (most : ℕ) (rows : List Row) (c : Content) → Beginning most rows c → Held c
held_by most _ _ none = record { parts = omega arith; paths = tt }
held_by most _ _ (more {c} {c'} rows r before count short kept adds) = held_step most c r.kind r.numbers c' kept adds (held_by most rows c before)

pub none_refused : (most : ℕ) (text : List ℕ) (c : Content) → most ≤ 256 → Holds most text c → paths_refused c.paths ≡ []
none_refused most text c le holds =
    let held = held_by most holds.rows c holds.lines in
    let few = few_held most text c holds in
    let high = none_too_high c.paths held.paths in
    grind (arith, few, high)

-- what reading a text gave
module _ (most : ℕ) (text list : List ℕ) (c : Content) (found : Found) (parts' : List Part) (list' : List ℕ) (gives : Gives c list found parts' list') (whole : most_paths list ≡ 256) (holds : Holds (most_paths list) text c) where
  first_paths : take found.path_count list' ≡ c.paths
  first_paths = ap (λ n. take n list') gives.path_count ∙ ap (take (length c.paths)) gives.paths ∙ take-append_seam c.paths _

  pub paths_fit : paths_refused (take found.path_count list') ≡ []
  paths_fit = ap paths_refused first_paths ∙ none_refused (most_paths list) text c (omega (arith, whole)) holds

  text_listed : (out : List ℕ) → Lists (station_with parts' (take found.path_count list') found.feed.number) most out → ListsText most text out
  text_listed out lists =
      let e = ap (λ ps. station_with ps (take found.path_count list') found.feed.number) gives.parts
      ∙ ap (λ ps. station_with c.parts ps found.feed.number) first_paths
      ∙ ap (λ n. station_with c.parts c.paths n) gives.feed in
      inr (c, subst (λ m. Holds m text c) whole holds, subst (λ w. Lists w most out) e lists)

  pub all_listed : {X E : Type 0} (bytes : X → List ℕ) (r : Result X E) → IfOk r (λ x. Lists (station_with parts' (take found.path_count list') found.feed.number) most (bytes x)) → IfOk r (λ x. ListsText most text (bytes x))
  all_listed bytes (Ok x) lists = text_listed (bytes x) lists
  all_listed bytes (Err e) lists = tt
