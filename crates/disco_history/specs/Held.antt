-- Held records as plain data.
use Rattle.std.specs.Prelude.{Option, option_map}
use Rattle.std.specs.Option.{option_copied}
use Rattle.std.specs.Borrow.{Bor}
use Rattle.std.specs.FinMap.{FinMap, get}
use Rattle.disco_values.specs.Key.{key_cmp}
use Rattle.disco_instance.specs.Row.{Row, row}
use Rattle.disco_values.specs.declared.key.Key.{Key}
use Rattle.disco_instance.specs.declared.record.Record.{Record}
use Rattle.disco_history.specs.Change.{Entry}
use Rattle.disco_history.specs.declared.held.Held.{Held}

-- a held record with what its last change did
abbrev pub entry_of : Held → Entry
entry_of h = (row h.rec.value, h.action)

-- the record that a map of mentions has at a key
abbrev pub record_at : FinMap key_cmp Entry → Key → Option Row
record_at m k = option_map (λ e. e.0) (get m k)

-- the record behind a reference, where there is one
abbrev pub seen_record : Option (Bor Record) → Option Row
seen_record o = option_map row (option_copied o)
