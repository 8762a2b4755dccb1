-- What the writing of a sheet as text answers and leaves. Assumes nothing.
use Rattle.std.specs.Prelude.{◌≡◌, ℕ, ◌^◌, Bool, cond, ◌&&◌, List, [], ◌∷◌, ◌++◌, length, drop, Ok, Err, Result, nat_le, nat_lt}
use Rattle.std.specs.List.{list_all}
use Rattle.sheet.specs.declared.part.Part.{Part}
use Rattle.sheet_lines.specs.Texts.{sheet_text}
use Rattle.sheet_writing.specs.Refusals.{write_refusal}
use Rattle.sheet_writing.specs.declared.write_error.WriteError.{WriteError}

-- the set of this number is not empty, and on a sheet of n parts
abbrev pub is_path : ℕ → ℕ → Bool
is_path n x = nat_lt 0 x && nat_lt x (2 ^ n)

-- at most 256 paths, each of them and the feed on a sheet of n parts
abbrev pub is_writable : ℕ → List ℕ → ℕ → Bool
is_writable n paths feed = nat_le (length paths) 256 && (nat_le feed n && list_all (is_path n) paths)

-- the refusal that these meet at a buffer of so many bytes, with its values; [] where they are written
abbrev pub writing_refused : List Part → List ℕ → ℕ → ℕ → List ℕ
writing_refused parts paths feed room =
    cond (is_writable (length parts) paths feed)
    (cond (nat_le (length (sheet_text parts paths feed)) room) [] (22 ∷ (length (sheet_text parts paths feed) ∷ [])))
    (21 ∷ [])

-- the buffer's first n bytes are the text, and the others stay; or it is refused, and the buffer stays
abbrev pub Written : List Part → List ℕ → ℕ → List ℕ → Result ℕ WriteError → List ℕ → Type 0
Written parts paths feed old (Ok n) new =
    (writing_refused parts paths feed (length old) ≡ [])
    × (n ≡ length (sheet_text parts paths feed))
    × (new ≡ sheet_text parts paths feed ++ drop n old)
Written parts paths feed old (Err e) new = (write_refusal e ≡ writing_refused parts paths feed (length old)) × (new ≡ old)
