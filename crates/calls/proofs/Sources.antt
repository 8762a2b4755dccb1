-- A sheet, a structure and a ranking that keep their laws make a lawful station. Assumes nothing.
use Rattle.std.proofs.Common.{◌≡◌, ℕ, ◌^◌, ◌<◌, Bool, true, sym, subst, arith}
use Rattle.sheet.specs.Parts.{count_of}
use Rattle.sheet.specs.declared.sealed.Sheet.{Sheet}
use Rattle.states.specs.Sets.{Within}
use Rattle.states.proofs.Masses.{figures_fine}
use Rattle.states.proofs.Sheets.{few_parts, count_is}
use Rattle.rankings.specs.Orders.{OneWay, Through, AddFollows, MoveFollows}
use Rattle.calls.specs.Stations.{station}
use Rattle.calls.proofs.Invariant.{Lawful}

pub lawful : (s : Sheet) (works : ℕ → Bool) (outranks : ℕ → ℕ → Bool)
    → ((x y : ℕ) → y < 2 ^ 40 → Within x y → works y ≡ true → works x ≡ true)
    → OneWay (count_of s) outranks → Through (count_of s) outranks → AddFollows (count_of s) outranks → MoveFollows (count_of s) outranks
    → Lawful (station s works outranks)
lawful s works outranks contained one_way through adds moves =
    let e = sym (count_is s) in
    record {
      few = omega (arith, count_is s, few_parts s);
      figures = figures_fine s;
      contained = contained;
      one_way = subst (λ n. OneWay n outranks) e one_way;
      through = subst (λ n. Through n outranks) e through;
      add_follows = subst (λ n. AddFollows n outranks) e adds;
      move_follows = subst (λ n. MoveFollows n outranks) e moves;
    }
