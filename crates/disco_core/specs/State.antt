-- What a core is, and what its commits need.
use Rattle.std.specs.Prelude.{◌≡◌, ℕ, Bool, true, false, Option, Some, None, Ok, option_map}
use Rattle.std.specs.FinMap.{FinMap, get}
use Rattle.disco_values.specs.Key.{key_cmp}
use Rattle.disco_values.specs.declared.key.Key.{Key}
use Rattle.disco_history.specs.Change.{Entry, key_of}
use Rattle.disco_history.specs.Registry.{put_of, registry_of}
use Rattle.disco_index.specs.Vips as vips
use Rattle.disco_index.specs.Vips.{Adds, HasNoneEmpty, HasPlaces, VipKeys}
use Rattle.disco_lease.specs.Leases as leases
use Rattle.disco_lease.specs.Leases.{HasPlace, IsFilled, Leases, lease_at}
use Rattle.disco_queue.specs.Queue as queue
use Rattle.disco_queue.specs.Queue.{HasRoom, KeepsHistory, Queue}
use Rattle.disco_registry.specs.Commit as commit
use Rattle.disco_registry.specs.State as registry
use Rattle.disco_registry.specs.Accept.{RegistryLimits, accepts, limits_of}
use Rattle.disco_registry.specs.Op.{OpView, op_key, renew}
use Rattle.disco_core.specs.Past.{Past, history}
use Rattle.disco_core.specs.Written.{HasTextsFor, IsSameWritten, OpensNoText, KeptTexts}
use Rattle.disco_values.specs.declared.settings.Settings.{Settings}

-- the number of the run, the registry, beside it the vips, the leases and the texts with their places, the recent changes, how long these are kept,
-- and whether deltas are served
pub record CoreState : Type 0 where
  pub run : ℕ
  pub registry : registry.RegistryState
  pub vips : VipKeys
  pub leases : Leases
  pub texts : KeptTexts
  pub queue : Queue
  pub retention : ℕ
  pub delta : Bool

-- the limits and choices that answers depend on
pub record Rules : Type 0 where
  pub limits : RegistryLimits
  pub queue : ℕ
  pub retention : ℕ
  pub delta : Bool

abbrev pub rules : Settings → Rules
rules s = record { limits = record { versions = s.versions; instances = s.instances }; queue = s.queue; retention = s.retention; delta = s.delta }

abbrev pub core_rules : CoreState → Rules
core_rules s = record { limits = limits_of s.registry; queue = s.queue.max; retention = s.retention; delta = s.delta }

-- the queue keeps what happened from its base on
pub record Remembers (q : Queue) (p : Past) : Type 0 where
  pub kept : KeepsHistory q p.timed
  pub base : q.base ≡ p.base

-- exactly the held instances have leases, each of its record's duration and with its mark, each renewal since the last closing was counted, and what
-- that closing kept is kept
pub record AreLeasesOf (v : Leases) (p : Past) : Type 0 where
  pub durations : (k : Key) → option_map (λ l. l.duration_secs) (lease_at v k) ≡ option_map (λ r. r.lease.duration_secs) (get (registry_of (history p)) k)
  pub marks : (k : Key) → option_map (λ l. l.mark) (lease_at v k) ≡ get p.marks k
  pub renewals : v.renewals ≡ p.renewals
  pub closed : v.closed ≡ p.closed

-- it is of the run, holds what is left of what happened, keeps what is recent, and has the leases
pub record CoreStandsFor (s : CoreState) (p : Past) : Type 0 where
  pub run : s.run ≡ p.run
  pub registry : registry.StandsFor s.registry (history p)
  pub queue : Remembers s.queue p
  pub leases : AreLeasesOf s.leases p

-- the same but for places and room, which no answer shows
pub record IsSameCore (old new : CoreState) : Type 0 where
  pub run : new.run ≡ old.run
  pub registry : registry.IsSameRegistry old.registry new.registry
  pub vips : vips.IsSameVips old.vips new.vips
  pub leases : leases.IsSameLeases old.leases new.leases
  pub texts : IsSameWritten old.texts new.texts
  pub queue : queue.IsSameQueue old.queue new.queue
  pub retention : new.retention ≡ old.retention
  pub delta : new.delta ≡ old.delta

-- there is a place under each vip of what a change puts
abbrev pub HasVipPlaces : VipKeys → Option Entry → Type 0
HasVipPlaces v None = Unit {0}
HasVipPlaces v (Some e) = HasPlaces v e.0

-- the index with what a change puts, if it puts something
abbrev pub AddsAny : Option Entry → VipKeys → VipKeys → Type 0
AddsAny None old new = vips.IsSameVips old new
AddsAny (Some e) old new = Adds e.0 old new

-- no place of the entry is empty
abbrev pub IsSwept : VipKeys → Option Entry → Type 0
IsSwept v None = Unit {0}
IsSwept v (Some e) = HasNoneEmpty v e.0

-- there are places for what a change puts, if there is one
abbrev pub HasPlacesFor : VipKeys → Leases → Option Entry → Type 0
HasPlacesFor v l None = Unit {0}
HasPlacesFor v l (Some c) = HasVipPlaces v (put_of c) × HasPlace l (key_of c)

-- there is room for a change in the queue, and a place for its number, if there is one
abbrev pub HasRoomFor : Queue → Option Entry → Type 0
HasRoomFor q None = Unit {0}
HasRoomFor q (Some c) = HasRoom q × queue.HasNumberPlace (key_of c) q

-- no place of what a change found, and none of its key's lease, is empty after it, if there is one
abbrev pub IsSweptAfter : FinMap key_cmp Entry → Option Entry → VipKeys → Leases → Type 0
IsSweptAfter held None v l = Unit {0}
IsSweptAfter held (Some c) v l = IsSwept v (get held (key_of c)) × IsFilled (key_of c) l

-- there is no new place of a vip, a lease, a text or a recent change
abbrev pub AddsNoPlaces : CoreState → CoreState → Type 0
AddsNoPlaces old new = vips.KeepsVipPlaces new.vips old.vips × leases.KeepsPlaces new.leases old.leases × OpensNoText old.texts new.texts
    × (new.queue.places ≡ old.queue.places)

-- whether an operation is a renewal
abbrev pub is_renewal : OpView → Bool
is_renewal (renew k) = true
is_renewal _ = false

-- an operation that is ready: its key, whether it is a renewal, its moment, and the change that it makes, if it makes one
pub record Prepared : Type 0 where
  pub key : Key
  pub renewal : Bool
  pub moment : ℕ
  pub change : Option Entry

-- the core can commit it without memory
abbrev pub IsCoreReady : CoreState → Prepared → Type 0
IsCoreReady s r = commit.IsReady s.registry r.change × HasPlacesFor s.vips s.leases r.change × HasRoomFor s.queue r.change × HasTextsFor s.texts r.change

-- what is ready is what was asked of the core, which accepts it
pub record IsFor (s : CoreState) (r : Prepared) (ask : OpView) : Type 0 where
  pub accepted : accepts s.registry ask r.moment ≡ Ok r.change
  pub key : r.key ≡ op_key ask
  pub renewal : r.renewal ≡ is_renewal ask
