-- Leases as plain data.
use Rattle.std.specs.Prelude.{◌≡◌, ℕ, ◌+◌, ◌-◌, ◌*◌, ◌^◌, min, false, if◌then◌else◌, Option, IsSome}
use Rattle.std.specs.FinMap.{FinMap, empty, get}
use Rattle.std.specs.Option.{option_flatten}
use Rattle.disco_values.specs.Key.{key_cmp, same_key}
use Rattle.disco_values.specs.declared.key.Key.{Key}
use Rattle.disco_lease.specs.declared.minute.Minute.{Minute}

-- how many seconds a lease lasts, and its mark, in milliseconds
pub record LeaseEntry : Type 0 where
  pub duration_secs : ℕ
  pub mark : ℕ

-- a place for each of some keys, with a lease or empty, the number of renewals since the last closing of a minute, and what that closing kept
pub record Leases : Type 0 where
  pub places : FinMap key_cmp (Option LeaseEntry)
  pub renewals : ℕ
  pub closed : Minute

-- what is kept before the first closing
abbrev pub no_minute : Minute
no_minute = record { renewals = 0; instances = 0 }

abbrev pub no_leases : Leases
no_leases = record { places = empty; renewals = 0; closed = no_minute }

-- the lease of a key
abbrev pub lease_at : Leases → Key → Option LeaseEntry
lease_at v k = option_flatten (get v.places k)

-- there is a place for the key's lease
abbrev pub HasPlace : Leases → Key → Type 0
HasPlace v k = IsSome (get v.places k)

-- the same but for empty places, which no answer shows
pub record IsSameLeases (old new : Leases) : Type 0 where
  pub leases : (q : Key) → lease_at new q ≡ lease_at old q
  pub renewals : new.renewals ≡ old.renewals
  pub closed : new.closed ≡ old.closed

-- each place stays
abbrev pub KeepsPlaces : Leases → Leases → Type 0
KeepsPlaces old new = (q : Key) → HasPlace old q → HasPlace new q

-- each place but that of the key is as it was
abbrev pub KeepsOthers : Key → Leases → Leases → Type 0
KeepsOthers k old new = (q : Key) → same_key q k ≡ false → get new.places q ≡ get old.places q

-- the key's place, if it has one, isn't empty
abbrev pub IsFilled : Key → Leases → Type 0
IsFilled k v = HasPlace v k → IsSome (lease_at v k)

-- the key has that lease, or none, and each other key what it had
abbrev pub Sets : Key → Option LeaseEntry → Leases → Leases → Type 0
Sets k l old new = (q : Key) → lease_at new q ≡ (if same_key q k then l else lease_at old q)

-- the lease of an instance that registers now
abbrev pub marked : ℕ → ℕ → LeaseEntry
marked duration_secs now = record { duration_secs = duration_secs; mark = now }

-- the lease with its mark one duration from now. So a renewed lease lasts two durations: Eureka's own quirk, which is kept as it is
abbrev pub extended : ℕ → LeaseEntry → LeaseEntry
extended now l = record { duration_secs = l.duration_secs; mark = now + l.duration_secs * 1000 }

-- one renewal more, up to the largest number that fits
abbrev pub counted : ℕ → ℕ
counted renewals = min (renewals + 1) (2 ^ 64 - 1)
