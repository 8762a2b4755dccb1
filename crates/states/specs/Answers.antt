-- What the calls that answer a state or none say. Assumes nothing.
use Rattle.std.specs.Prelude.{ℕ, List, [], ◌∷◌, Some, None, Option}
use Rattle.states.specs.declared.state.State.{State}

-- the number of the state, where there is one
abbrev pub numbers : Option State → List ℕ
numbers None = []
numbers (Some s) = s.number ∷ []
