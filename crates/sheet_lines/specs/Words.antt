-- The words that begin lines. Assumes nothing.
use Rattle.std.specs.Prelude.{◌≡◌, ℕ, List, Some, None, codes, Option, ◌≢◌}
use Rattle.sheet_lines.specs.declared.kind.Kind.{Kind}
use Rattle.sheet_lines.specs.declared.kind.Kind.TheVariants.{Part, Path, Feed}

-- the word of each kind of line
abbrev pub word_of : Kind → List ℕ
word_of Part = codes "part"
word_of Path = codes "path"
word_of Feed = codes "feed"

-- the word was read: it is the word of the kind answered, or of none
abbrev pub Names : List ℕ → Option Kind → Type 0
Names word (Some kind) = word ≡ word_of kind
Names word None = (kind : Kind) → word ≢ word_of kind
