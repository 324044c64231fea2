-- Changes with the moments at which they came.
use Rattle.std.specs.Prelude.{ℕ, List, map}
use Rattle.disco_history.specs.Change.{Entry}

-- a change and its moment, in milliseconds
abbrev pub Timed : Type 0
Timed = Entry × ℕ

-- the changes without their moments
abbrev pub changes : List Timed → List Entry
changes = map (λ t. t.0)
