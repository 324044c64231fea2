-- A list of held records and its spare room, as plain data.
use Rattle.std.specs.Prelude.{ℕ}
use Rattle.std.specs.FinMap.{FinMap}
use Rattle.disco_values.specs.Key.{key_cmp}
use Rattle.disco_history.specs.Change.{Entry}

-- the records by key, and how many more fit into the room that is there
pub record Room : Type 0 where
  pub held : FinMap key_cmp Entry
  pub room : ℕ
