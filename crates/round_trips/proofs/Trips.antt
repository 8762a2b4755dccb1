-- What is read of a text that was written, and written of one that was read. Assumes nothing.
use Rattle.std.proofs.Common.{◌≡◌, ℕ, ◌<◌, ◌≤◌, ◌⊎◌, Bool, true, false, cond, ◌&&◌, ltb, leb, List, [], ◌∷◌, ◌++◌, length, take, drop, is_some, Ok, Err, Result, sym, refl, ap, ◌∙◌, subst, inl, inr, ⊎_elim, arith, lt-ltb, le-leb, ltb-true, leb-false}
use borrow.Author.Tests.{leb-true}
use Rattle.std.proofs.lemmas.Bool.{cond-true, and_from, and_parts, cases_lt}
use Rattle.std.proofs.lemmas.List.{take_at}
use Rattle.std.specs.List.{list_all}
use Rattle.sheet.specs.Parts.{parts_of}
use Rattle.sheet.specs.declared.part.Part.{Part}
use Rattle.sheet.specs.declared.part_number.PartNumber.{PartNumber}
use Rattle.sheet.specs.declared.sealed.Sheet.{Sheet}
use Rattle.states.proofs.Sheets.{few_parts}
use Rattle.sheet_lines.specs.Texts.{sheet_text}
use Rattle.sheet_lines.specs.declared.fault.Fault.{Fault}
use Rattle.sheet_lines.specs.declared.kind.Kind.{Kind}
use Rattle.sheet_lines.specs.declared.kind.Kind.TheVariants as kind
use Rattle.sheet_reading.specs.Paths.{first_off}
use Rattle.sheet_reading.specs.Readings.{Row, Beginning, none, more, Holds, RefusedText, Gives, Reads, OfMemory, most_paths}
use Rattle.sheet_reading.specs.Rules.{Content, rising, rules, broken}
use Rattle.sheet_reading.specs.Stages.{next_stage}
use Rattle.sheet_reading.specs.declared.found.Found.{Found}
use Rattle.sheet_reading.proofs.Beginnings.{kept_first}
use Rattle.sheet_reading.proofs.OneFault.{exact}
use Rattle.sheet_writing.specs.Refusals.{write_refusal}
use Rattle.sheet_writing.specs.declared.write_error.WriteError.{WriteError}
use Rattle.sheet_writing.specs.declared.write_error.WriteError.TheVariants as write_error
use Rattle.sheet_writing.specs.Writing.{is_path, is_writable, writing_refused, Written}
use Rattle.sheet_writing.proofs.Lengths.{text_length}
use Rattle.round_trips.specs.Trips.{content_of}
use Rattle.round_trips.proofs.Reading.{IsText, held_text}
use Rattle.round_trips.proofs.Writing.{text_holds}

-- what holds where fewer paths are allowed holds where more are
wide_rules : (most wide : ℕ) (c : Content) (k : Kind) (ns : List ℕ) → most ≤ wide → broken (rules most c k ns) ≡ [] → broken (rules wide c k ns) ≡ []
wide_rules most wide c kind.Part ns h kept = kept
wide_rules most wide c kind.Path ns h kept =
    let wrong = rising (first_off (length c.parts) 0 2 ns) in
    let last : ℕ → List ℕ = λ n. cond (ltb (length c.paths) n) [] (20 ∷ (0 ∷ [])) in
    let first = kept_first (is_some (next_stage c.at kind.Path)) 18 1 (cond wrong.kept (last most) (wrong.number ∷ (wrong.field ∷ []))) kept in
    let second = kept_first wrong.kept wrong.number wrong.field (last most) first.1 in
    let third = kept_first (ltb (length c.paths) most) 20 0 [] second.1 in
    cond-true (is_some (next_stage c.at kind.Path)) _ _ first.0 ∙ cond-true wrong.kept _ _ second.0 ∙ cond-true (ltb (length c.paths) wide) _ _ (lt-ltb (length c.paths) wide (omega (arith, h, ltb-true (length c.paths) most third.0)))
wide_rules most wide c kind.Feed ns h kept = kept

wide_lines : (most wide : ℕ) (rows : List Row) (c : Content) → most ≤ wide → Beginning most rows c → Beginning wide rows c
wide_lines most wide _ _ h none = none
wide_lines most wide _ _ h (more {c} {c'} rows r before many short kept adds) = more rows r (wide_lines most wide rows c h before) many short (wide_rules most wide c r.kind r.numbers h kept) adds

wide_holds : (most wide : ℕ) (text : List ℕ) (c : Content) → most ≤ wide → Holds most text c → Holds wide text c
wide_holds most wide text c h holds = record { few_bytes = holds.few_bytes; rows = holds.rows; lines = wide_lines most wide holds.rows c h holds.lines; bytes = holds.bytes; done = holds.done }

-- what was written is not refused
pub record IsTaken (n : ℕ) (xs : List ℕ) (feed : ℕ) : Type 0 where
  pub few_paths : length xs ≤ 256
  pub on_sheet : feed ≤ n
  pub paths : list_all (is_path n) xs ≡ true

taken : (ps : List Part) (xs : List ℕ) (feed room : ℕ) → writing_refused ps xs feed room ≡ [] → IsTaken (length ps) xs feed
taken ps xs feed room e = go (is_writable (length ps) xs feed) refl e
  where
    go : (b : Bool) → b ≡ is_writable (length ps) xs feed → cond b (cond (leb (length (sheet_text ps xs feed)) room) [] (22 ∷ (length (sheet_text ps xs feed) ∷ []))) (21 ∷ []) ≡ [] → IsTaken (length ps) xs feed
    go true is rest =
        let first = and_parts (leb (length xs) 256) (leb feed (length ps) && list_all (is_path (length ps)) xs) (sym is) in
        let second = and_parts (leb feed (length ps)) (list_all (is_path (length ps)) xs) first.1 in
        record { few_paths = leb-true (length xs) 256 first.0; on_sheet = leb-true feed (length ps) second.0; paths = second.1 }
    go false is rest = absurd cc

-- a sheet's text, where it is written, holds what the sheet and its paths and its feed are, if so many paths are allowed
module _ (s : Sheet) (xs : List ℕ) (feed : PartNumber) where
  abbrev c : Content
  c = content_of (parts_of s) xs feed.number

  abbrev text : List ℕ
  text = sheet_text (parts_of s) xs feed.number

  holds_at : (most : ℕ) → IsTaken (length (parts_of s)) xs feed.number → length xs ≤ most → Holds most text c
  holds_at most is room =
      let long = text_length (parts_of s) xs feed.number (few_parts s) is.few_paths feed.to_forty in
      text_holds most (parts_of s) xs feed.number (few_parts s) s.ordered room is.paths feed.from_one is.on_sheet (omega (arith, long))

  -- so it is what is read
  one_held : (most : ℕ) (d : Content) → most ≤ 256 → IsTaken (length (parts_of s)) xs feed.number → Holds most text d → d ≡ c
  one_held most d few is holds = (exact 256 text).one_content d c (wide_holds most 256 text d few holds) (holds_at 256 is is.few_paths)

  not_held : (most : ℕ) (f : Fault) → IsTaken (length (parts_of s)) xs feed.number → length xs ≤ most → RefusedText most text f → OfMemory f
  not_held most f is room refused = (exact most text).never_refused c f (holds_at most is room) refused

  written_bytes : (old new bytes : List ℕ) (n : ℕ) → Written (parts_of s) xs feed.number old (Ok n) new → bytes ≡ take n new → bytes ≡ text
  written_bytes old new bytes n w e = e ∙ ap (take n) w.2 ∙ take_at text (drop n old) n (sym w.1)

  pub sheet_read : (old new bytes : List ℕ) (n : ℕ) (parts : List Part) (list : List ℕ) (found : Found) (parts' : List Part) (list' : List ℕ) → Written (parts_of s) xs feed.number old (Ok n) new → bytes ≡ take n new
      → Reads bytes parts list (Ok found) parts' list' → Gives c list found parts' list'
  sheet_read old new bytes n parts list found parts' list' w e (d, holds, gives) =
      let here : Holds (most_paths list) text d = subst (λ v. Holds (most_paths list) v d) (written_bytes old new bytes n w e) holds in
      subst (λ x. Gives x list found parts' list') (one_held (most_paths list) d (omega arith) (taken (parts_of s) xs feed.number (length old) w.0) here) gives

  pub sheet_unread : (old new bytes : List ℕ) (n : ℕ) (parts : List Part) (list : List ℕ) (f : Fault) (parts' : List Part) (list' : List ℕ) → Written (parts_of s) xs feed.number old (Ok n) new → bytes ≡ take n new
      → Reads bytes parts list (Err f) parts' list' → OfMemory f ⊎ (length list < length xs)
  sheet_unread old new bytes n parts list f parts' list' w e (refused, same_parts, same_list) =
      let is = taken (parts_of s) xs feed.number (length old) w.0 in
      let here : RefusedText (most_paths list) text f = subst (λ v. RefusedText (most_paths list) v f) (written_bytes old new bytes n w e) refused in
      ⊎_elim (λ (h : most_paths list < length xs). inr (omega (arith, h, is.few_paths))) (λ room. inl (not_held (most_paths list) f is room here)) (cases_lt (most_paths list) (length xs))

-- what was read of a text
pub record WasRead (text list : List ℕ) (found : Found) (parts' : List Part) (list' : List ℕ) : Type 0 where
  pub content : Content
  pub holds : Holds (most_paths list) text content
  pub is_text : IsText (most_paths list) text content
  pub parts : parts' ≡ content.parts
  pub list_is : list' ≡ content.paths ++ drop (length content.paths) list
  pub paths : take found.path_count list' ≡ content.paths
  pub feed : found.feed.number ≡ content.feed

pub was_read : (text : List ℕ) (parts : List Part) (list : List ℕ) (found : Found) (parts' : List Part) (list' : List ℕ) → Reads text parts list (Ok found) parts' list' → WasRead text list found parts' list'
was_read text parts list found parts' list' (c, holds, gives) = record {
  content = c;
  holds = holds;
  is_text = held_text (most_paths list) text c holds;
  parts = gives.parts;
  list_is = gives.paths;
  paths = ap (take found.path_count) gives.paths ∙ take_at c.paths (drop (length c.paths) list) found.path_count (sym gives.path_count);
  feed = gives.feed;
}

-- the refusal of a buffer that is too short
too_short : (e : WriteError) (b : Bool) (long : ℕ) → write_refusal e ≡ cond b [] (22 ∷ (long ∷ [])) → (b ≡ false) × (e ≡ write_error.BufferTooShort long)
too_short write_error.NotOnSheet true long is = absurd cc
too_short (write_error.BufferTooShort needed) true long is = absurd cc
too_short write_error.NotOnSheet false long is = absurd (let heads : ◌≡◌ {A = ℕ} 21 22 = cc in omega (arith, heads))
too_short (write_error.BufferTooShort needed) false long is = (refl, ap write_error.BufferTooShort (let same : needed ≡ long = cc in same))

-- it was written as that text
same_written : (old new : List ℕ) (c : Content) (ps : List Part) (xs : List ℕ) (feed : ℕ) (r : Result ℕ WriteError) → ps ≡ c.parts → xs ≡ c.paths → feed ≡ c.feed → Written ps xs feed old r new → Written c.parts c.paths c.feed old r new
same_written old new c ps xs feed r e f g w =
    subst (λ n. Written c.parts c.paths n old r new) g (subst (λ v. Written c.parts v feed old r new) f (subst (λ v. Written v xs feed old r new) e w))

module _ (text list : List ℕ) (found : Found) (parts' : List Part) (list' : List ℕ) (was : WasRead text list found parts' list') (ps : List Part) (xs old new : List ℕ) (sealed : ps ≡ parts') (front : xs ≡ take found.path_count list') where
  abbrev at : Result ℕ WriteError → Type 0
  at r = Written ps xs found.feed.number old r new

  as_text : (r : Result ℕ WriteError) → at r → Written was.content.parts was.content.paths was.content.feed old r new
  as_text r w = same_written old new was.content ps xs found.feed.number r (sealed ∙ was.parts) (front ∙ was.paths) was.feed w

  pub text_written : (n : ℕ) → at (Ok n) → (n ≡ length text) × (new ≡ text ++ drop n old)
  text_written n w =
      let is = as_text (Ok n) w in
      (is.1 ∙ ap length (sym was.is_text.bytes), is.2 ∙ ap (λ v. v ++ drop n old) (sym was.is_text.bytes))

  pub text_unwritten : (e : WriteError) → at (Err e) → (e ≡ write_error.BufferTooShort (length text)) × (length old < length text)
  text_unwritten e w =
      let is = as_text (Err e) w in
      let c = was.content in
      let t = was.is_text in
      let long = length (sheet_text c.parts c.paths c.feed) in
      let good : is_writable (length c.parts) c.paths c.feed ≡ true =
      and_from (leb (length c.paths) 256) (leb c.feed (length c.parts) && list_all (is_path (length c.parts)) c.paths) (le-leb (length c.paths) 256 (omega (arith, t.few_paths)))
      (and_from (leb c.feed (length c.parts)) (list_all (is_path (length c.parts)) c.paths) (le-leb c.feed (length c.parts) t.feed.1) t.paths) in
      let due : write_refusal e ≡ cond (leb long (length old)) [] (22 ∷ (long ∷ [])) = is.0 ∙ cond-true (is_writable (length c.parts) c.paths c.feed) _ _ good in
      let short = too_short e (leb long (length old)) long due in
      let bytes : long ≡ length text = ap length (sym t.bytes) in
      (short.1 ∙ ap write_error.BufferTooShort bytes, omega (arith, leb-false long (length old) short.0, bytes))
