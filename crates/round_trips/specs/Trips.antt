-- What comes back of a sheet that is written and read, and of a text that is read and written. Assumes nothing.
use Rattle.std.specs.Prelude.{◌≡◌, ℕ, ◌<◌, ◌⊎◌, List, ◌++◌, length, drop, Ok, Err, Result}
use Rattle.sheet.specs.declared.part.Part.{Part}
use Rattle.sheet_reading.specs.Readings.{Holds, RefusedText, Gives, OfMemory, most_paths}
use Rattle.sheet_reading.specs.Rules.{Content}
use Rattle.sheet_reading.specs.declared.found.Found.{Found}
use Rattle.sheet_reading.specs.declared.stage.Stage.TheVariants as stage
use Rattle.sheet_writing.specs.Writing.{Written}
use Rattle.sheet_writing.specs.declared.write_error.WriteError.TheVariants as write_error
use Rattle.round_trips.specs.declared.trip_error.TripError.{TripError}
use Rattle.round_trips.specs.declared.trip_error.TripError.TheVariants.{Writing, Reading}

-- what the text of a sheet with these parts, of its paths and its feed, is to hold
abbrev pub content_of : List Part → List ℕ → ℕ → Content
content_of parts paths feed = record { parts = parts; paths = paths; at = stage.Done; feed = feed }

-- the text of c was written as the buffer's first bytes
abbrev pub IsWritten : Content → List ℕ → List ℕ → Type 0
IsWritten c old new = (n : ℕ) × Written c.parts c.paths c.feed old (Ok n) new

-- the sheet of the content c was written and read back: the draft has the same parts, the list the same paths, and the feed is the same;
-- or it was not written, for the refusal due, and all is as it was; or it was not read back, since memory was wanting or the list too
-- short, and draft and list are as they were
abbrev pub SheetComesBack : Content → List ℕ → List Part → List ℕ → Result Found TripError → List ℕ → List Part → List ℕ → Type 0
SheetComesBack c buffer parts list (Ok found) buffer' parts' list' = IsWritten c buffer buffer' × Gives c list found parts' list'
SheetComesBack c buffer parts list (Err (Writing e)) buffer' parts' list' =
    Written c.parts c.paths c.feed buffer (Err e) buffer' × (parts' ≡ parts) × (list' ≡ list)
SheetComesBack c buffer parts list (Err (Reading f)) buffer' parts' list' =
    IsWritten c buffer buffer' × (OfMemory f ⊎ (length list < length c.paths)) × (parts' ≡ parts) × (list' ≡ list)

-- the text holds c, whose paths are the first entries of the list now
abbrev pub IsRead : List ℕ → List ℕ → Content → List ℕ → Type 0
IsRead text list c list' = Holds (most_paths list) text c × (list' ≡ c.paths ++ drop (length c.paths) list)

-- the text was read and written back: the buffer's first n bytes are that text; or it was not read, since it is refused, which one that
-- holds something is only where memory was wanting, and all is as it was; or it was not written, since the buffer is too short
abbrev pub TextComesBack : List ℕ → List ℕ → List ℕ → Result ℕ TripError → List ℕ → List ℕ → Type 0
TextComesBack text list buffer (Ok n) list' buffer' =
    ((c : Content) × IsRead text list c list') × (n ≡ length text) × (buffer' ≡ text ++ drop n buffer)
TextComesBack text list buffer (Err (Reading f)) list' buffer' =
    RefusedText (most_paths list) text f × ((c : Content) → Holds (most_paths list) text c → OfMemory f) × (list' ≡ list) × (buffer' ≡ buffer)
TextComesBack text list buffer (Err (Writing e)) list' buffer' =
    ((c : Content) × IsRead text list c list') × (e ≡ write_error.BufferTooShort (length text)) × (length buffer < length text) × (buffer' ≡ buffer)
