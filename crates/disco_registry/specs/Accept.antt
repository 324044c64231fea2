-- What an operation does: the first cause against it, else its change or none (the rules of Eureka's REST operations).
use Rattle.std.specs.Prelude.{◌≡◌, ◌≢◌, ℕ, ◌&&◌, not, is_none, List, length, nat_lt, if◌then◌else◌, Option, Some, None, Result, Ok, Err}
use Rattle.std.specs.Option.{ok_or, option_map_or}
use Rattle.std.specs.FinMap.{get, len}
use Rattle.disco_values.specs.Entries.{with_entries}
use Rattle.disco_instance.specs.Instance.{if_ok}
use Rattle.disco_instance.specs.Moments.{cancelled_at, modified_at}
use Rattle.disco_instance.specs.Row.{Row}
use Rattle.disco_values.specs.Status.{is_same, status_named}
use Rattle.disco_values.specs.declared.key.Key.{Key}
use Rattle.disco_values.specs.declared.status.Status.TheVariants.{Unknown}
use Rattle.disco_values.specs.declared.action.Action.TheVariants.{Added, Modified, Deleted}
use Rattle.disco_values.specs.declared.fault.Fault.{Fault}
use Rattle.disco_values.specs.declared.fault.Fault.TheVariants.{OutOfMemory, BadStatus, NotFound, VersionsSpent, TooManyInstances}
use Rattle.disco_history.specs.Change.{Entry}
use Rattle.disco_history.specs.Registry.{registry_of}
use Rattle.disco_history.specs.Held.{record_at}
use Rattle.disco_registry.specs.Op.{OpView, register, cancel, renew, set_status, drop_status, add_metadata}
use Rattle.disco_registry.specs.Settle.{settle}
use Rattle.disco_registry.specs.State.{RegistryState}

-- how many versions and how many instances there may be
pub record RegistryLimits : Type 0 where
  pub versions : ℕ
  pub instances : ℕ

-- the status that an instance gets whose override is dropped: the one that is named, else Unknown
-- the change that is asked for or none, or the first cause against it, by the record of each key and the number of records: a new key needs a place; an
-- instance of unknown status has no lease to renew; a status is set with its override, and the override is dropped with it; what has more metadata is
-- registered again
abbrev pub change_asked : RegistryLimits → (Key → Option Row) → ℕ → OpView → ℕ → Result (Option Entry) Fault
change_asked limits held count (register p) now =
    if is_none (held p.key) && not (nat_lt count (limits.instances)) then Err TooManyInstances else Ok (Some (settle (held p.key) p now, Added))
change_asked limits held count (cancel k) now = if_ok (ok_or (held k) NotFound) (λ r. Ok (Some (cancelled_at r now, Deleted)))
change_asked limits held count (renew k) now = if_ok (ok_or (held k) NotFound) (λ r. if is_same r.status Unknown then Err NotFound else Ok None)
change_asked limits held count (set_status k text) now = if_ok (ok_or (status_named text) BadStatus) (λ s. if_ok (ok_or (held k) NotFound) (λ r.
    if is_same r.status s then Ok None else Ok (Some (modified_at r s s now, Modified))))
change_asked limits held count (drop_status k text) now = if_ok (ok_or (option_map_or status_named text (Some Unknown)) BadStatus) (λ s.
    if_ok (ok_or (held k) NotFound) (λ r. if is_same r.overridden_status Unknown then Ok None else Ok (Some (modified_at r s Unknown now, Modified))))
change_asked limits held count (add_metadata k entries) now = if_ok (ok_or (held k) NotFound) (λ r.
    Ok (Some (settle (Some r) (record r { metadata = with_entries r.metadata entries }) now, Added)))

-- a change needs a version that is left
abbrev pub if_left : RegistryLimits → ℕ → Result (Option Entry) Fault → Result (Option Entry) Fault
if_left limits version result = if_ok result (λ change.
    option_map_or (λ c. if nat_lt version (limits.versions) then Ok (Some c) else Err VersionsSpent) change (Ok None))

-- what an operation does to these records at a version
abbrev pub accept : RegistryLimits → (Key → Option Row) → ℕ → ℕ → OpView → ℕ → Result (Option Entry) Fault
accept limits held count version ask now = if_left limits version (change_asked limits held count ask now)

-- what it does after a history: to the history's registry
abbrev pub accept_after : RegistryLimits → List Entry → OpView → ℕ → Result (Option Entry) Fault
accept_after limits h ask now = accept limits (get (registry_of h)) (len (registry_of h)) (length h) ask now

-- the limits of a registry
abbrev pub limits_of : RegistryState → RegistryLimits
limits_of s = record { versions = s.versions; instances = s.instances }

-- what it does to a registry
abbrev pub accepts : RegistryState → OpView → ℕ → Result (Option Entry) Fault
accepts s ask now = accept (limits_of s) (record_at s.held) (len s.held) s.version ask now

-- memory may always be refused, any other fault comes only as the rules have it
abbrev pub MayRefuse : RegistryState → OpView → ℕ → Fault → Type 0
MayRefuse s ask now e = e ≢ OutOfMemory → accepts s ask now ≡ Err e
