-- A text that holds parts, paths and a feed is the text that is written of them. Assumes nothing.
use Rattle.std.proofs.Common.{◌≡◌, ℕ, suc, pred, ◌+◌, ◌^◌, ◌<◌, ◌≤◌, Bool, true, cond, ◌&&◌, eqb, ltb, leb, List, [], ◌∷◌, ◌++◌, map, length, get_or, is_some, sym, refl, ap, ◌∙◌, ap₂, subst, arith, pow_pos, lt-ltb, ltb-true, eqb-true}
use borrow.Author.Tests.{leb-true}
use Rattle.std.proofs.lemmas.Bool.{and_from, and_parts}
use Rattle.std.proofs.lemmas.List.{append-nil, append_assoc, length_push}
use Rattle.std.specs.List.{list_all}
use Rattle.sheet.specs.Orders.{last_or}
use Rattle.sheet.specs.Parts.{grade_of}
use Rattle.sheet.specs.declared.part.Part.{Part}
use Rattle.sheet_lines.specs.Texts.{line_text, part_lines, members, path_lines, sheet_text}
use Rattle.sheet_lines.specs.Tokens.{RightCount}
use Rattle.sheet_lines.specs.declared.kind.Kind.{Kind}
use Rattle.sheet_lines.specs.declared.kind.Kind.TheVariants as kind
use Rattle.sheet_reading.specs.Paths.{first_off, set_of}
use Rattle.sheet_reading.specs.Readings.{Row, rows_text, Beginning, none, more, Holds}
use Rattle.sheet_reading.specs.Rules.{Content, rising, rules, broken, Adds}
use Rattle.sheet_reading.specs.Stages.{next_stage}
use Rattle.sheet_reading.specs.declared.stage.Stage.{Stage}
use Rattle.sheet_reading.specs.declared.stage.Stage.TheVariants as stage
use Rattle.sheet_reading.proofs.Beginnings.{kept_first}
use Rattle.sheet_reading.proofs.TextSteps.{rows_push}
use Rattle.sheet_writing.specs.Writing.{is_path}
use Rattle.round_trips.proofs.Sets.{rises, set_of_rising}
use Rattle.round_trips.proofs.Writing.{held}

-- the line that ends a text, where it was read
abbrev end_text : Stage → ℕ → List ℕ
end_text stage.Parts feed = []
end_text stage.Paths feed = []
end_text stage.Done feed = line_text kind.Feed (feed ∷ [])

-- the text of what was read
abbrev text_of : List Part → List ℕ → Stage → ℕ → List ℕ
text_of ps xs at feed = part_lines 1 ps ++ (path_lines (length ps) xs ++ end_text at feed)

-- the text is that of what was read, which a sheet may have
pub record Told (most : ℕ) (text : List ℕ) (ps : List Part) (xs : List ℕ) (at : Stage) (feed : ℕ) : Type 0 where
  pub bytes : text ≡ text_of ps xs at feed
  pub no_paths : at ≡ stage.Parts → xs ≡ []
  pub few_parts : length ps ≤ 40
  pub few_paths : length xs ≤ most
  pub paths : list_all (is_path (length ps)) xs ≡ true
  pub on_sheet : at ≡ stage.Done → (1 ≤ feed) × (feed ≤ length ps)

abbrev TellsOf : ℕ → List ℕ → Content → Type 0
TellsOf most text c = Told most text c.parts c.paths c.at c.feed

-- one line more of each kind
parts_push : (i : ℕ) (ps : List Part) (p : Part) → part_lines i (ps ++ p ∷ []) ≡ part_lines i ps ++ line_text kind.Part ((i + length ps) ∷ (grade_of p ∷ (p.cents ∷ [])))
parts_push i [] p =
    let e : i ≡ i + 0 = omega arith in
    append-nil (line_text kind.Part (i ∷ (grade_of p ∷ (p.cents ∷ [])))) ∙ ap (λ k. line_text kind.Part (k ∷ (grade_of p ∷ (p.cents ∷ [])))) e
parts_push i (q ∷ qs) p =
    let line = line_text kind.Part (i ∷ (grade_of q ∷ (q.cents ∷ []))) in
    let e : suc i + length qs ≡ i + suc (length qs) = omega arith in
    ap (λ v. line ++ v) (parts_push (suc i) qs p) ∙ sym (append_assoc line (part_lines (suc i) qs) _) ∙ ap (λ k. (line ++ part_lines (suc i) qs) ++ line_text kind.Part (k ∷ (grade_of p ∷ (p.cents ∷ [])))) e

paths_push : (n : ℕ) (xs : List ℕ) (x : ℕ) → path_lines n (xs ++ x ∷ []) ≡ path_lines n xs ++ line_text kind.Path (members n x [])
paths_push n [] x = append-nil (line_text kind.Path (members n x []))
paths_push n (y ∷ ys) x =
    let line = line_text kind.Path (members n y []) in
    ap (λ v. line ++ v) (paths_push n ys x) ∙ sym (append_assoc line (path_lines n ys) (line_text kind.Path (members n x [])))

all_push : (test : ℕ → Bool) (xs : List ℕ) (x : ℕ) → list_all test xs ≡ true → test x ≡ true → list_all test (xs ++ x ∷ []) ≡ true
all_push test [] x all one = and_from (test x) true one refl
all_push test (y ∷ ys) x all one =
    let both = and_parts (test y) (list_all test ys) all in
    and_from (test y) (list_all test (ys ++ x ∷ [])) both.0 (all_push test ys x both.1 one)

-- the numbers of a line, by how many they are
three : (ns : List ℕ) → length ns ≡ 3 → ns ≡ get_or ns 0 0 ∷ (get_or ns 1 0 ∷ (get_or ns 2 0 ∷ []))
three [] e = absurd (omega (arith, e))
three (a ∷ []) e = absurd (omega (arith, e))
three (a ∷ (b ∷ [])) e = absurd (omega (arith, e))
three (a ∷ (b ∷ (c ∷ []))) e = refl
three (a ∷ (b ∷ (c ∷ (d ∷ ns)))) e = absurd (omega (arith, e))

one : (ns : List ℕ) → length ns ≡ 1 → ns ≡ get_or ns 0 0 ∷ []
one [] e = absurd (omega (arith, e))
one (a ∷ []) e = refl
one (a ∷ (b ∷ ns)) e = absurd (omega (arith, e))

-- when a line comes in its turn
part_turn : (at : Stage) → is_some (next_stage at kind.Part) ≡ true → at ≡ stage.Parts
part_turn stage.Parts h = refl
part_turn stage.Paths h = absurd cc
part_turn stage.Done h = absurd cc

path_turn : (at : Stage) (feed : ℕ) → is_some (next_stage at kind.Path) ≡ true → end_text at feed ≡ []
path_turn stage.Parts feed h = refl
path_turn stage.Paths feed h = refl
path_turn stage.Done feed h = absurd cc

feed_turn : (at : Stage) (feed : ℕ) → is_some (next_stage at kind.Feed) ≡ true → end_text at feed ≡ []
feed_turn stage.Parts feed h = refl
feed_turn stage.Paths feed h = refl
feed_turn stage.Done feed h = absurd cc

none_rising : (places : List ℕ) → (rising places).kept ≡ true → places ≡ []
none_rising [] h = refl
none_rising (place ∷ places) h = absurd cc

some_set : (ns : List ℕ) → 0 < length ns → 0 < set_of ns
some_set [] h = absurd (omega (arith, h))
some_set (m ∷ ms) h = omega (arith, pow_pos (pred m))

-- what each kind of line adds to what was told
module _ (most : ℕ) (text : List ℕ) (ps : List Part) (xs : List ℕ) (at : Stage) (feed : ℕ) (told : Told most text ps xs at feed) (ns : List ℕ) where
  part_told : (p : Part) → length ns ≡ 3 → broken (rules most (held ps xs at feed) kind.Part ns) ≡ [] → grade_of p ≡ get_or ns 1 0 → p.cents ≡ get_or ns 2 0
      → Told most (text ++ line_text kind.Part ns) (ps ++ p ∷ []) xs stage.Parts feed
  part_told p many kept grade cents =
      let number = get_or ns 0 0 in
      let others : List ℕ = cond (leb (get_or ns 1 0) 39) (cond (leb (last_or 0 (map grade_of ps)) (get_or ns 1 0)) [] (4 ∷ (3 ∷ []))) (2 ∷ (3 ∷ [])) in
      let first = kept_first (is_some (next_stage at kind.Part) && eqb number (suc (length ps))) 18 1 (cond (ltb (length ps) 40) others (5 ∷ (2 ∷ []))) kept in
      let second = kept_first (ltb (length ps) 40) 5 2 others first.1 in
      let turn = and_parts (is_some (next_stage at kind.Part)) (eqb number (suc (length ps))) first.0 in
      let here : at ≡ stage.Parts = part_turn at turn.0 in
      let none : xs ≡ [] = told.no_paths here in
      let next : number ≡ 1 + length ps = omega (arith, eqb-true number (suc (length ps)) turn.1) in
      let numbers : ns ≡ (1 + length ps) ∷ (grade_of p ∷ (p.cents ∷ [])) = three ns many ∙ ap (λ n. n ∷ (get_or ns 1 0 ∷ (get_or ns 2 0 ∷ []))) next ∙ ap₂ (λ g c. (1 + length ps) ∷ (g ∷ (c ∷ []))) (sym grade) (sym cents) in
      let before : text ≡ part_lines 1 ps = told.bytes ∙ ap₂ (λ v a. part_lines 1 ps ++ (path_lines (length ps) v ++ end_text a feed)) none here ∙ append-nil (part_lines 1 ps) in
      let after : part_lines 1 (ps ++ p ∷ []) ≡ text_of (ps ++ p ∷ []) xs stage.Parts feed = sym (append-nil (part_lines 1 (ps ++ p ∷ []))) ∙ ap (λ v. part_lines 1 (ps ++ p ∷ []) ++ (path_lines (length (ps ++ p ∷ [])) v ++ [])) (sym none) in
      record {
        bytes = ap₂ (λ v w. v ++ line_text kind.Part w) before numbers ∙ sym (parts_push 1 ps p) ∙ after;
        no_paths = λ e. none;
        few_parts = omega (arith, length_push ps p, ltb-true (length ps) 40 second.0);
        few_paths = told.few_paths;
        paths = ap (list_all (is_path (length (ps ++ p ∷ [])))) none;
        on_sheet = λ e. absurd cc;
      }

  path_told : 1 ≤ length ns → broken (rules most (held ps xs at feed) kind.Path ns) ≡ [] → Told most (text ++ line_text kind.Path ns) ps (xs ++ set_of ns ∷ []) stage.Paths feed
  path_told many kept =
      let n = length ps in
      let wrong = rising (first_off n 0 2 ns) in
      let last : List ℕ = cond (ltb (length xs) most) [] (20 ∷ (0 ∷ [])) in
      let first = kept_first (is_some (next_stage at kind.Path)) 18 1 (cond wrong.kept last (wrong.number ∷ (wrong.field ∷ []))) kept in
      let second = kept_first wrong.kept wrong.number wrong.field last first.1 in
      let third = kept_first (ltb (length xs) most) 20 0 [] second.1 in
      let set = set_of_rising n ns (rises 0 n 2 ns (none_rising (first_off n 0 2 ns) second.0)) in
      let open_end : end_text at feed ≡ [] = path_turn at feed first.0 in
      let line = line_text kind.Path ns in
      let before : text ≡ part_lines 1 ps ++ path_lines n xs = told.bytes ∙ ap (λ v. part_lines 1 ps ++ (path_lines n xs ++ v)) open_end ∙ ap (λ v. part_lines 1 ps ++ v) (append-nil (path_lines n xs)) in
      let pushed : path_lines n (xs ++ set_of ns ∷ []) ≡ path_lines n xs ++ line = paths_push n xs (set_of ns) ∙ ap (λ v. path_lines n xs ++ line_text kind.Path v) set.1 in
      record {
        bytes = ap (λ v. v ++ line) before ∙ append_assoc (part_lines 1 ps) (path_lines n xs) line ∙ ap (λ v. part_lines 1 ps ++ v) (sym pushed ∙ sym (append-nil (path_lines n (xs ++ set_of ns ∷ []))));
        no_paths = λ e. absurd cc;
        few_parts = told.few_parts;
        few_paths = omega (arith, length_push xs (set_of ns), ltb-true (length xs) most third.0);
        paths = all_push (is_path n) xs (set_of ns) told.paths (and_from (ltb 0 (set_of ns)) (ltb (set_of ns) (2 ^ n)) (lt-ltb 0 (set_of ns) (some_set ns (omega (arith, many)))) (lt-ltb (set_of ns) (2 ^ n) set.0));
        on_sheet = λ e. absurd cc;
      }

  feed_told : length ns ≡ 1 → broken (rules most (held ps xs at feed) kind.Feed ns) ≡ [] → Told most (text ++ line_text kind.Feed ns) ps xs stage.Done (get_or ns 0 0)
  feed_told many kept =
      let number = get_or ns 0 0 in
      let first = kept_first (is_some (next_stage at kind.Feed)) 18 1 (cond (leb 1 number && leb number (length ps)) [] (19 ∷ (2 ∷ []))) kept in
      let second = kept_first (leb 1 number && leb number (length ps)) 19 2 [] first.1 in
      let both = and_parts (leb 1 number) (leb number (length ps)) second.0 in
      let open_end : end_text at feed ≡ [] = feed_turn at feed first.0 in
      let before : text ≡ part_lines 1 ps ++ path_lines (length ps) xs = told.bytes ∙ ap (λ v. part_lines 1 ps ++ (path_lines (length ps) xs ++ v)) open_end ∙ ap (λ v. part_lines 1 ps ++ v) (append-nil (path_lines (length ps) xs)) in
      record {
        bytes = ap₂ (λ v w. v ++ line_text kind.Feed w) before (one ns many) ∙ append_assoc (part_lines 1 ps) (path_lines (length ps) xs) (line_text kind.Feed (number ∷ []));
        no_paths = λ e. absurd cc;
        few_parts = told.few_parts;
        few_paths = told.few_paths;
        paths = told.paths;
        on_sheet = λ e. (leb-true 1 number both.0, leb-true number (length ps) both.1);
      }

line_told : (most : ℕ) (text : List ℕ) (c : Content) (k : Kind) (ns : List ℕ) (d : Content) → TellsOf most text c → RightCount k (length ns) → broken (rules most c k ns) ≡ [] → Adds c k ns d → TellsOf most (text ++ line_text k ns) d
line_told most text c kind.Part ns d told many kept (p, grade, cents, is) =
    subst (TellsOf most (text ++ line_text kind.Part ns)) (sym is) (part_told most text c.parts c.paths c.at c.feed told ns p many kept grade cents)
line_told most text c kind.Path ns d told many kept is = subst (TellsOf most (text ++ line_text kind.Path ns)) (sym is) (path_told most text c.parts c.paths c.at c.feed told ns many.0 kept)
line_told most text c kind.Feed ns d told many kept is = subst (TellsOf most (text ++ line_text kind.Feed ns)) (sym is) (feed_told most text c.parts c.paths c.at c.feed told ns many kept)

lines_told : (most : ℕ) (rows : List Row) (c : Content) → Beginning most rows c → TellsOf most (rows_text rows) c
lines_told most _ _ none = record {
  bytes = refl;
  no_paths = λ e. refl;
  few_parts = omega arith;
  few_paths = omega arith;
  paths = refl;
  on_sheet = λ e. absurd cc;
}
lines_told most _ _ (more {c} {c'} rows r before many short kept adds) =
    subst (λ v. TellsOf most v c') (sym (rows_push rows r)) (line_told most (rows_text rows) c r.kind r.numbers c' (lines_told most rows c before) many kept adds)

-- the text that holds something is written of it, and write takes that
pub record IsText (most : ℕ) (text : List ℕ) (c : Content) : Type 0 where
  pub bytes : text ≡ sheet_text c.parts c.paths c.feed
  pub few_parts : length c.parts ≤ 40
  pub few_paths : length c.paths ≤ most
  pub paths : list_all (is_path (length c.parts)) c.paths ≡ true
  pub feed : (1 ≤ c.feed) × (c.feed ≤ length c.parts)

pub held_text : (most : ℕ) (text : List ℕ) (c : Content) → Holds most text c → IsText most text c
held_text most text c holds =
    let told = lines_told most holds.rows c holds.lines in
    record {
      bytes = holds.bytes ∙ told.bytes ∙ ap (λ a. text_of c.parts c.paths a c.feed) holds.done;
      few_parts = told.few_parts;
      few_paths = told.few_paths;
      paths = told.paths;
      feed = told.on_sheet holds.done;
    }
