-- A well-formed beginning, line by line from its first. Assumes nothing.
use Rattle.std.proofs.Common.{◌≡◌, ℕ, zero, suc, ◌+◌, ◌<◌, ◌≤◌, Bool, true, false, cond, ltb, List, [], ◌∷◌, ◌++◌, length, min, sym, refl, ap, ◌∙◌, subst, arith}
use borrow.Author.Tests.{ltb-true}
use Rattle.std.proofs.lemmas.List.{length_push, length-take}
use Rattle.sheet_lines.specs.Tokens.{RightCount}
use Rattle.sheet_lines.specs.declared.kind.Kind.{Kind}
use Rattle.sheet_lines.specs.declared.kind.Kind.TheVariants as kind
use Rattle.sheet_reading.specs.Numbers.{Short}
use Rattle.sheet_reading.specs.Paths.{first_off, set_of}
use Rattle.sheet_reading.specs.Readings.{Row, Beginning, none, more, Holds}
use Rattle.sheet_reading.specs.Rules.{Content, nothing, rules, in_turn, rising, broken, Adds}

-- the first rule is kept, and the others are
pub kept_first : (kept : Bool) (number field : ℕ) (others : List ℕ) → cond kept others (number ∷ (field ∷ [])) ≡ [] → (kept ≡ true) × (others ≡ [])
kept_first true number field others e = (refl, e)
kept_first false number field others e = absurd cc

-- no line leads past the paths that are allowed
few_step : (most : ℕ) (c : Content) (k : Kind) (ns : List ℕ) (d : Content) → broken (rules most c k ns) ≡ [] → Adds c k ns d → length c.paths ≤ most → length d.paths ≤ most
few_step most c kind.Part ns d kept adds few = omega (arith, few, ap (λ x. length x.paths) adds.3)
few_step most c kind.Path ns d kept adds few =
    let wrong = rising (first_off (length c.parts) 0 2 ns) in
    let last : List ℕ = cond (ltb (length c.paths) most) [] (20 ∷ (0 ∷ [])) in
    let first = kept_first (in_turn c kind.Path) 18 1 (cond wrong.kept last (wrong.number ∷ (wrong.field ∷ []))) kept in
    let second = kept_first wrong.kept wrong.number wrong.field last first.1 in
    let third = kept_first (ltb (length c.paths) most) 20 0 [] second.1 in
    omega (arith, ltb-true (length c.paths) most third.0, ap (λ x. length x.paths) adds, length_push c.paths (set_of ns))
few_step most c kind.Feed ns d kept adds few = omega (arith, few, ap (λ x. length x.paths) adds)

pub few_paths : (most : ℕ) (rows : List Row) (c : Content) → Beginning most rows c → length c.paths ≤ most
few_paths most _ _ none = omega arith
few_paths most _ _ (more {c} {c'} rows r before count short kept adds) = few_step most c r.kind r.numbers c' kept adds (few_paths most rows c before)

pub few_held : (most : ℕ) (text : List ℕ) (c : Content) → Holds most text c → length c.paths ≤ most
few_held most text c holds = few_paths most holds.rows c holds.lines

-- so the paths fit the list
pub ruleset paths_fit = (few_held, length-take)

-- a line that is kept after c, and leads to d
pub record Kept (most : ℕ) (c : Content) (r : Row) (d : Content) : Type 0 where
  pub count : RightCount r.kind (length r.numbers)
  pub short : Short r.numbers
  pub kept : broken (rules most c r.kind r.numbers) ≡ []
  pub adds : Adds c r.kind r.numbers d

-- lines that lead from c to d, from the first on
unfoldable pub Run : ℕ → Content → List Row → Content → Type 0
Run most c [] d = c ≡ d
Run most c (r ∷ rs) d = (e : Content) × Kept most c r e × Run most e rs d

run_push : (most : ℕ) (c : Content) (rs : List Row) (d : Content) (r : Row) (e : Content) → Run most c rs d → Kept most d r e → Run most c (rs ++ r ∷ []) e
unfolding Run
run_push most c [] d r e run kept = (e, subst (λ x. Kept most x r e) (sym run) kept, refl)
run_push most c (q ∷ qs) d r e run kept = (run.0, run.1, run_push most run.0 qs d r e run.2 kept)

-- a well-formed beginning leads from nothing to what it holds
pub run_of : (most : ℕ) (rows : List Row) (c : Content) → Beginning most rows c → Run most nothing rows c
unfolding Run
run_of most _ _ none = refl
run_of most _ _ (more {c} {c'} rows r before count short kept adds) =
    run_push most nothing rows c r c' (run_of most rows c before) (record { count = count; short = short; kept = kept; adds = adds })
