-- The text of a sheet, its paths and its feed is well-formed, and holds them. Assumes nothing.
use Rattle.std.proofs.Common.{◌≡◌, ℕ, suc, ◌+◌, ◌^◌, ◌<◌, ◌≤◌, true, cond, ◌&&◌, eqb, ltb, leb, List, [], ◌∷◌, ◌++◌, map, length, is_some, sym, refl, ap, ◌∙◌, subst, arith, lt-ltb, le-leb, ltb-true, eq-eqb}
use Rattle.std.proofs.lemmas.Bool.{cond-true, and_from, and_parts}
use Rattle.std.proofs.lemmas.List.{append-nil, append_assoc, length_push, map_push}
use Rattle.std.specs.List.{list_all}
use Rattle.sheet.specs.Orders.{never_falls, never_falls_from, last_or}
use Rattle.sheet.specs.Parts.{grade_of}
use Rattle.sheet.specs.declared.part.Part.{Part}
use Rattle.sheet_lines.specs.Texts.{line_text, part_lines, members, path_lines, sheet_text}
use Rattle.sheet_lines.specs.Tokens.{RightCount}
use Rattle.sheet_lines.specs.declared.kind.Kind.{Kind}
use Rattle.sheet_lines.specs.declared.kind.Kind.TheVariants as kind
use Rattle.sheet_reading.specs.Numbers.{Short}
use Rattle.sheet_reading.specs.Paths.{first_off}
use Rattle.sheet_reading.specs.Readings.{Row, rows_text, Beginning, none, more, Holds}
use Rattle.sheet_reading.specs.Rules.{Content, rising, rules, broken, Adds}
use Rattle.sheet_reading.specs.Stages.{next_stage}
use Rattle.sheet_reading.specs.declared.stage.Stage.{Stage}
use Rattle.sheet_reading.specs.declared.stage.Stage.TheVariants as stage
use Rattle.sheet_reading.proofs.TextSteps.{rows_push}
use Rattle.sheet_writing.specs.Writing.{is_path}
use Rattle.round_trips.proofs.Sets.{members_rise, none_off, set_back, some_members, rises_length, rises_short}

abbrev pub held : List Part → List ℕ → Stage → ℕ → Content
held parts paths at feed = record { parts = parts; paths = paths; at = at; feed = feed }

-- the text is that of well-formed lines, which hold c
pub record WellFormed (most : ℕ) (text : List ℕ) (c : Content) : Type 0 where
  pub rows : List Row
  pub lines : Beginning most rows c
  pub bytes : text ≡ rows_text rows

-- one line more
one_line : (most : ℕ) (text : List ℕ) (c : Content) (k : Kind) (ns : List ℕ) (d : Content) → WellFormed most text c → RightCount k (length ns) → Short ns → broken (rules most c k ns) ≡ [] → Adds c k ns d
    → WellFormed most (text ++ line_text k ns) d
one_line most text c k ns d so many short kept adds =
    let r : Row = record { kind = k; numbers = ns } in
    record {
      rows = so.rows ++ r ∷ [];
      lines = more so.rows r so.lines many short kept adds;
      bytes = ap (λ v. v ++ line_text k ns) so.bytes ∙ sym (rows_push so.rows r);
    }

same : (most : ℕ) (text text' : List ℕ) (c d : Content) → text ≡ text' → c ≡ d → WellFormed most text c → WellFormed most text' d
same most text text' c d e f so = subst (λ v. WellFormed most v d) e (subst (λ x. WellFormed most text x) f so)

last_push : (d : ℕ) (xs : List ℕ) (x : ℕ) → last_or d (xs ++ x ∷ []) ≡ x
last_push d [] x = refl
last_push d (y ∷ ys) x = last_push y ys x

-- the lines of more parts
parts_written : (most : ℕ) (ps qs : List Part) (text : List ℕ) → WellFormed most text (held ps [] stage.Parts 0) → length ps + length qs ≤ 40 → never_falls_from (last_or 0 (map grade_of ps)) (map grade_of qs) ≡ true
    → WellFormed most (text ++ part_lines (suc (length ps)) qs) (held (ps ++ qs) [] stage.Parts 0)
parts_written most ps [] text so few ordered =
    same most text (text ++ []) (held ps [] stage.Parts 0) (held (ps ++ []) [] stage.Parts 0) (sym (append-nil text)) (ap (λ v. held v [] stage.Parts 0) (sym (append-nil ps))) so
parts_written most ps (q ∷ qs) text so few ordered =
    let g = grade_of q in
    let low = last_or 0 (map grade_of ps) in
    let i : ℕ = suc (length ps) in
    let both = and_parts (leb low g) (never_falls_from g (map grade_of qs)) ordered in
    let kept : ◌≡◌ {A = List ℕ} (cond (true && eqb i i) (cond (ltb (length ps) 40) (cond (leb g 39) (cond (leb low g) [] (4 ∷ (3 ∷ []))) (2 ∷ (3 ∷ []))) (5 ∷ (2 ∷ []))) (18 ∷ (1 ∷ []))) [] =
    cond-true (true && eqb i i) _ _ (eq-eqb i i refl) ∙ cond-true (ltb (length ps) 40) _ _ (lt-ltb _ _ (omega (arith, few))) ∙ cond-true (leb g 39) _ _ (le-leb g 39 q.grade.known) ∙ cond-true (leb low g) _ _ both.0 in
    let line = line_text kind.Part (i ∷ (g ∷ (q.cents ∷ []))) in
    let here = one_line most text (held ps [] stage.Parts 0) kind.Part (i ∷ (g ∷ (q.cents ∷ []))) (held (ps ++ q ∷ []) [] stage.Parts 0) so refl (omega (arith, few), (omega (arith, q.grade.known), (omega (arith, q.priced), tt))) kept (q, refl, refl, refl) in
    let grown : length (ps ++ q ∷ []) ≡ suc (length ps) = omega (arith, length_push ps q) in
    let rest = parts_written most (ps ++ q ∷ []) qs (text ++ line) here (omega (arith, few, grown)) (ap (λ n. never_falls_from n (map grade_of qs)) (ap (last_or 0) (map_push grade_of ps q) ∙ last_push 0 (map grade_of ps) g) ∙ both.1) in
    same most _ (text ++ (line ++ part_lines (suc (suc (length ps))) qs)) (held ((ps ++ q ∷ []) ++ qs) [] stage.Parts 0) (held (ps ++ q ∷ qs) [] stage.Parts 0)
    (append_assoc text line (part_lines (suc (length (ps ++ q ∷ []))) qs) ∙ ap (λ n. text ++ (line ++ part_lines (suc n) qs)) grown) (ap (λ v. held v [] stage.Parts 0) (append_assoc ps (q ∷ []) qs)) rest

-- a feed may come where a path may
feed_next : (at : Stage) → is_some (next_stage at kind.Path) ≡ true → is_some (next_stage at kind.Feed) ≡ true
feed_next stage.Parts h = refl
feed_next stage.Paths h = refl
feed_next stage.Done h = h

-- the lines of more paths
abbrev pub AtPaths : ℕ → List ℕ → List Part → List ℕ → Type 0
AtPaths most text ps xs = (at : Stage) × (is_some (next_stage at kind.Path) ≡ true) × WellFormed most text (held ps xs at 0)

paths_written : (most : ℕ) (ps : List Part) (xs ys : List ℕ) (text : List ℕ) → AtPaths most text ps xs → length ps ≤ 40 → length xs + length ys ≤ most → list_all (is_path (length ps)) ys ≡ true
    → AtPaths most (text ++ path_lines (length ps) ys) ps (xs ++ ys)
paths_written most ps xs [] text (at, turn, so) few room good =
    (at, turn, same most text (text ++ []) (held ps xs at 0) (held ps (xs ++ []) at 0) (sym (append-nil text)) (ap (λ v. held ps v at 0) (sym (append-nil xs))) so)
paths_written most ps xs (y ∷ ys) text (at, turn, so) few room good =
    let n = length ps in
    let ns = members n y [] in
    let both = and_parts (is_path n y) (list_all (is_path n) ys) good in
    let ends = and_parts (ltb 0 y) (ltb y (2 ^ n)) both.0 in
    let on_sheet : y < 2 ^ n = ltb-true y (2 ^ n) ends.1 in
    let rise = members_rise n y in
    let off : first_off n 0 2 ns ≡ [] = none_off 0 n 2 ns rise in
    let kept : cond (is_some (next_stage at kind.Path)) (cond (rising (first_off n 0 2 ns)).kept (cond (ltb (length xs) most) [] (20 ∷ (0 ∷ []))) ((rising (first_off n 0 2 ns)).number ∷ ((rising (first_off n 0 2 ns)).field ∷ []))) (18 ∷ (1 ∷ [])) ≡ [] =
    cond-true (is_some (next_stage at kind.Path)) _ _ turn ∙ cond-true (rising (first_off n 0 2 ns)).kept _ _ (ap (λ v. (rising v).kept) off) ∙ cond-true (ltb (length xs) most) _ _ (lt-ltb _ _ (omega (arith, room))) in
    let line = line_text kind.Path ns in
    let c : Content = held ps (xs ++ y ∷ []) stage.Paths 0 in
    let here = one_line most text (held ps xs at 0) kind.Path ns c so (some_members n y (ltb-true 0 y ends.0) on_sheet, omega (arith, rises_length 0 n ns (omega arith) rise, few)) (rises_short 0 n ns few rise) kept (ap (λ k. held ps (xs ++ k ∷ []) stage.Paths 0) (sym (set_back n y on_sheet))) in
    let rest = paths_written most ps (xs ++ y ∷ []) ys (text ++ line) (stage.Paths, refl, here) few (omega (arith, room, length_push xs y)) both.1 in (
      rest.0,
      rest.1,
      same most _ _ (held ps ((xs ++ y ∷ []) ++ ys) rest.0 0) (held ps (xs ++ y ∷ ys) rest.0 0) (append_assoc text line (path_lines n ys)) (ap (λ v. held ps v rest.0 0) (append_assoc xs (y ∷ []) ys)) rest.2,
    )

-- the line of the feed
feed_written : (most : ℕ) (ps : List Part) (xs : List ℕ) (text : List ℕ) (feed : ℕ) → AtPaths most text ps xs → 1 ≤ feed → feed ≤ length ps → feed < 10 ^ 8
    → WellFormed most (text ++ line_text kind.Feed (feed ∷ [])) (held ps xs stage.Done feed)
feed_written most ps xs text feed (at, turn, so) some on_sheet short =
    let kept : cond (is_some (next_stage at kind.Feed)) (cond (leb 1 feed && leb feed (length ps)) [] (19 ∷ (2 ∷ []))) (18 ∷ (1 ∷ [])) ≡ [] =
    cond-true (is_some (next_stage at kind.Feed)) _ _ (feed_next at turn) ∙ cond-true (leb 1 feed && leb feed (length ps)) _ _ (and_from (leb 1 feed) (leb feed (length ps)) (le-leb 1 feed some) (le-leb feed (length ps) on_sheet)) in
    one_line most text (held ps xs at 0) kind.Feed (feed ∷ []) (held ps xs stage.Done feed) so refl (short, tt) kept refl

-- the whole text
pub text_holds : (most : ℕ) (ps : List Part) (xs : List ℕ) (feed : ℕ) → length ps ≤ 40 → never_falls (map grade_of ps) ≡ true → length xs ≤ most → list_all (is_path (length ps)) xs ≡ true → 1 ≤ feed → feed ≤ length ps
    → length (sheet_text ps xs feed) ≤ 65536 → Holds most (sheet_text ps xs feed) (held ps xs stage.Done feed)
text_holds most ps xs feed few ordered room good some on_sheet short =
    let start : WellFormed most [] (held [] [] stage.Parts 0) = record { rows = []; lines = none; bytes = refl } in
    let parts = parts_written most [] ps [] start (omega (arith, few)) ordered in
    let paths = paths_written most ps [] xs (part_lines 1 ps) (stage.Parts, refl, parts) few (omega (arith, room)) good in
    let all = feed_written most ps xs (part_lines 1 ps ++ path_lines (length ps) xs) feed paths some on_sheet (omega (arith, few, on_sheet)) in
    record {
      few_bytes = short;
      rows = all.rows;
      lines = all.lines;
      bytes = sym (append_assoc (part_lines 1 ps) (path_lines (length ps) xs) (line_text kind.Feed (feed ∷ []))) ∙ all.bytes;
      done = refl;
    }
