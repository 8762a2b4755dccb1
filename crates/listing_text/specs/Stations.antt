-- The station of what a text holds. Assumes nothing.
use Rattle.std.specs.Prelude.{ℕ, List, map}
use Rattle.sheet.specs.Parts.{figure_of}
use Rattle.sheet.specs.declared.part.Part.{Part}
use Rattle.structures.specs.Meanings.{path_list_works, feed_works}
use Rattle.rankings.specs.Exact.{heavier}
use Rattle.calls.specs.Stations.{Station}
use Rattle.sheet_reading.specs.Rules.{Content}

-- the failure figures of these parts, these paths under this feed part, and the exact ranking
abbrev pub station_with : List Part → List ℕ → ℕ → Station
station_with parts paths feed = record {
  figures = map figure_of parts;
  works = λ x. feed_works feed (path_list_works paths) x;
  outranks = heavier (map figure_of parts);
}

abbrev pub station_in : Content → Station
station_in c = station_with c.parts c.paths c.feed
