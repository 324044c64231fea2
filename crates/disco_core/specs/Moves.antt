-- What the private steps of a commit do to leases and places. Nothing here is to be believed: no public clause cites it.
use Rattle.std.specs.Prelude.{◌≡◌, ℕ, Bool, if◌then◌else◌, Option, Some, None, IsSome, option_map}
use Rattle.disco_values.specs.declared.action.Action.TheVariants.{Added, Modified, Deleted}
use Rattle.disco_values.specs.declared.key.Key.{Key}
use Rattle.disco_instance.specs.Row.{Row}
use Rattle.disco_history.specs.Change.{Entry, key_of}
use Rattle.disco_index.specs.Vips.{KeepsOtherVips, VipKeys}
use Rattle.disco_lease.specs.Leases.{LeaseEntry, Leases, Sets, counted, extended, lease_at, marked}

-- the lease that a change at a moment gives
abbrev pub lease_by : Entry → ℕ → Option LeaseEntry
lease_by (r, Added) now = Some (marked r.lease.duration_secs now)
lease_by (r, Modified) now = Some (extended now (marked r.lease.duration_secs now))
lease_by (r, Deleted) now = None

-- the number of renewals after an operation
abbrev pub counted_by : Bool → ℕ → ℕ
counted_by renewal n = if renewal then counted n else n

-- the key's lease, if it has one, goes on for its duration from now
pub record GoesOn (k : Key) (renewal : Bool) (now : ℕ) (old new : Leases) : Type 0 where
  pub leases : Sets k (option_map (extended now) (lease_at old k)) old new
  pub renewals : IsSome (lease_at old k) → new.renewals ≡ counted_by renewal old.renewals
  pub closed : new.closed ≡ old.closed

-- the change's key has the lease that the change gives
pub record FollowsChange (c : Entry) (now : ℕ) (old new : Leases) : Type 0 where
  pub leases : Sets (key_of c) (lease_by c now) old new
  pub renewals : new.renewals ≡ old.renewals
  pub closed : new.closed ≡ old.closed

-- the leases follow what is ready: its change, if there is one, else the lease of its key goes on
abbrev pub Moves : Option Entry → Key → Bool → ℕ → Leases → Leases → Type 0
Moves None k renewal now old new = GoesOn k renewal now old new
Moves (Some c) k renewal now old new = FollowsChange c now old new

-- each place but those of the entry is as it was
abbrev pub OthersStay : Option Entry → VipKeys → VipKeys → Type 0
OthersStay None old new = old ≡ new
OthersStay (Some e) old new = KeepsOtherVips e.0 old new

-- one row has the vips and the secure vips of the other
abbrev pub HasVipsOf : Row → Row → Type 0
HasVipsOf d c = (c.vip_address ≡ d.vip_address) × (c.secure_vip_address ≡ d.secure_vip_address)

-- what is put has the vips and the secure vips of what is held
abbrev pub VipsStay : Option Entry → Option Entry → Type 0
VipsStay None c = ⊥
VipsStay (Some d) None = ⊥
VipsStay (Some d) (Some c) = HasVipsOf d.0 c.0
