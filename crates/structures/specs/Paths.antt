-- What the making of a path list answers. Assumes nothing.
use Rattle.std.specs.Prelude.{◌≡◌, ℕ, ◌^◌, cond, List, [], ◌∷◌, map, length, position, Some, None, Ok, Err, vec_items, Option, Result, nat_le, nat_lt}
use Rattle.structures.specs.Refusals.{path_list_refusal}
use Rattle.structures.specs.declared.path_list.PathList.{PathList}
use Rattle.structures.specs.declared.refusal.PathListError.{PathListError}

-- the numbers of a path list's paths
abbrev pub paths_of : PathList → List ℕ
paths_of l = map (λ path. path.number) (vec_items l.paths)

-- the place of the first of these numbers that is 2 ^ 40 or more, counted from 0
abbrev pub first_too_high : List ℕ → Option ℕ
first_too_high ps = position (λ p. nat_le (2 ^ 40) p) ps

-- the refusal of a number at this place, where there is one
abbrev pub place_refused : Option ℕ → List ℕ
place_refused None = []
place_refused (Some place) = 7 ∷ (place ∷ [])

-- the refusal that these numbers meet; [] where they are paths
abbrev pub paths_refused : List ℕ → List ℕ
paths_refused ps = cond (nat_lt 256 (length ps)) (6 ∷ []) (place_refused (first_too_high ps))

-- a path list is made of these numbers, or refused, for their fault or for want of memory
abbrev pub Listed : List ℕ → Result PathList PathListError → Type 0
Listed ps (Ok list) = (paths_refused ps ≡ []) × (paths_of list ≡ ps)
Listed ps (Err e) = path_list_refusal e ≡ paths_refused ps
