-- The records of an app, and of an id, among those in the order of their keys.
use Rattle.std.specs.Prelude.{ℕ, Bool, List}
use Rattle.std.specs.Str.{bytes_eq}
use Rattle.disco_history.specs.Change.{Entry}

-- it is of the app of that name
abbrev pub is_of_app : List ℕ → Entry → Bool
is_of_app name e = bytes_eq e.0.key.app name

-- it is of that id
abbrev pub is_of_id : List ℕ → Entry → Bool
is_of_id id e = bytes_eq e.0.key.id id
