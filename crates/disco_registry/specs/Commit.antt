-- What a commit needs, and what it does.
use Rattle.std.specs.Prelude.{◌≡◌, ℕ, ◌<◌, ◌+◌, List, [], ◌∷◌, ◌++◌, Option, Bool, true, Some, None, Result, Ok, Err}
use Rattle.std.specs.FinMap.{FinMap, get, insert, remove}
use Rattle.disco_values.specs.Key.{key_cmp}
use Rattle.disco_instance.specs.Row.{row}
use Rattle.disco_values.specs.declared.fault.Fault.{Fault}
use Rattle.disco_values.specs.declared.key.Key.{Key}
use Rattle.disco_history.specs.Change.{Entry, is_proper, key_of, change_view}
use Rattle.disco_history.specs.Registry.{put_of}
use Rattle.disco_history.specs.declared.change.Change.{Change}
use Rattle.disco_history.specs.declared.change.Change.TheVariants.{Put, Gone}
use Rattle.disco_registry.specs.State.{RegistryState}
use Rattle.disco_registry.specs.declared.op.Applied.{Applied}
use Rattle.disco_registry.specs.declared.op.Applied.TheVariants.{Changed, Same}

-- there is a place for the record that is put, if there is one
abbrev pub HasPlaceFor : RegistryState → Option Entry → Type 0
HasPlaceFor s None = Unit {0}
HasPlaceFor s (Some e) = get s.held (key_of e) ≡ None → s.next ≡ Some (key_of e)

-- the registry can make the change that is ready, if there is one, without memory
abbrev pub IsReady : RegistryState → Option Entry → Type 0
IsReady s None = Unit {0}
IsReady s (Some c) = (s.version < s.versions) × HasPlaceFor s (put_of c)

-- with a change that is ready its record is kept, where it is put
abbrev pub IsPrepared : Option Change → Option Entry → Type 0
IsPrepared None kept = Unit {0}
IsPrepared (Some (Put action rec)) kept = let e : Entry = (row rec.value, action) in (put_of e ≡ Some e) × (kept ≡ Some e)
IsPrepared (Some (Gone rec)) kept = Unit {0}

abbrev put_or_removed : FinMap key_cmp Entry → Key → Option Entry → FinMap key_cmp Entry
put_or_removed m k None = remove m k
put_or_removed m k (Some e) = insert m k e

-- the mentions after a change, if there is one: its record goes in, or out
abbrev pub held_after : FinMap key_cmp Entry → Option Entry → FinMap key_cmp Entry
held_after m None = m
held_after m (Some c) = put_or_removed m (key_of c) (put_of c)

abbrev pub version_after : ℕ → Option Entry → ℕ
version_after v None = v
version_after v (Some c) = v + 1

-- the registry has made this change, if there is one, and no other
pub record Takes (old : RegistryState) (c : Option Entry) (new : RegistryState) : Type 0 where
  pub held : new.held ≡ held_after old.held c
  pub version : new.version ≡ version_after old.version c
  pub versions : new.versions ≡ old.versions
  pub instances : new.instances ≡ old.instances

-- the change that was made, if any
abbrev pub done_by : Applied → Option Entry
done_by (Changed c) = Some (change_view c)
done_by Same = None

-- that change isn't a put with the action DELETED
abbrev pub changes_properly : Applied → Bool
changes_properly (Changed c) = is_proper c
changes_properly Same = true

abbrev pub outcome : Result Applied Fault → Option Entry
outcome (Ok a) = done_by a
outcome (Err e) = None

-- a history with the change, if there is one
abbrev pub appended : List Entry → Option Entry → List Entry
appended h None = h
appended h (Some c) = h ++ c ∷ []
