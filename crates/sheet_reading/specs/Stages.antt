-- Which kinds of line may follow which. Assumes nothing.
use Rattle.std.specs.Prelude.{Bool, true, false, Some, None, Option}
use Rattle.sheet_lines.specs.declared.kind.Kind.{Kind}
use Rattle.sheet_lines.specs.declared.kind.Kind.TheVariants as kind
use Rattle.sheet_reading.specs.declared.stage.Stage.{Stage}
use Rattle.sheet_reading.specs.declared.stage.Stage.TheVariants.{Parts, Paths, Done}

-- part lines follow only part lines, path lines part or path lines, one feed line either; nothing follows the feed line
abbrev pub next_stage : Stage → Kind → Option Stage
next_stage Parts kind.Part = Some Parts
next_stage Parts kind.Path = Some Paths
next_stage Parts kind.Feed = Some Done
next_stage Paths kind.Part = None
next_stage Paths kind.Path = Some Paths
next_stage Paths kind.Feed = Some Done
next_stage Done kind.Part = None
next_stage Done kind.Path = None
next_stage Done kind.Feed = None

-- the feed line was read
abbrev pub done_at : Stage → Bool
done_at Parts = false
done_at Paths = false
done_at Done = true
