-- Changes of a registry as plain data, and the last one of each key.
use Rattle.std.specs.Prelude.{ℕ, Bool, true, false, List, [], ◌∷◌, if◌then◌else◌, Option, Some, None, take}
use Rattle.std.specs.Option.{option_or}
use Rattle.disco_values.specs.Key.{same_key}
use Rattle.disco_instance.specs.Row.{Row, row}
use Rattle.disco_values.specs.declared.action.Action.{Action}
use Rattle.disco_values.specs.declared.action.Action.TheVariants.{Deleted}
use Rattle.disco_values.specs.declared.key.Key.{Key}
use Rattle.disco_history.specs.declared.change.Change.{Change}
use Rattle.disco_history.specs.declared.change.Change.TheVariants.{Put, Gone}

-- a change: its record, and what it did to it; DELETED where the record was removed
abbrev pub Entry : Type 0
Entry = Row × Action

-- a change as plain data
abbrev pub change_view : Change → Entry
change_view (Put action rec) = (row rec.value, action)
change_view (Gone rec) = (row rec.value, Deleted)

-- a put doesn't have the action DELETED
abbrev pub is_proper : Change → Bool
is_proper (Put Deleted rec) = false
is_proper _ = true

-- the key of its record
abbrev pub key_of : Entry → Key
key_of e = e.0.key

-- version v of a history: its first v changes
abbrev pub prefix : List Entry → ℕ → List Entry
prefix h v = take v h

-- the last change of the key
abbrev pub last : List Entry → Key → Option Entry
last [] k = None
last (e ∷ es) k = option_or (last es k) (if same_key k (key_of e) then Some e else None)
