-- Stored leases, as plain data. Nothing here is to be believed: no public contract rests on it.
use Rattle.std.specs.Ordering.{eq_by_cmp}
use Rattle.std.specs.Prelude.{ℕ, ◌+◌, ◌*◌, Bool, List, map, is_some, if◌then◌else◌, Option, Some, None, option_map}
use Rattle.std.specs.List.{filter_map}
use Rattle.std.specs.FinMap.{FinMap, entries, from_entries}
use Rattle.disco_values.specs.Key.{key_cmp}
use Rattle.disco_values.specs.declared.key.Key.{Key}
use Rattle.disco_lease.specs.Due.{due_cmp, due_moment, passed}
use Rattle.disco_lease.specs.Leases as leases
use Rattle.disco_lease.specs.declared.lease.Lease.{Lease}

abbrev pub plain_lease : Lease → leases.LeaseEntry
plain_lease l = record { duration_secs = l.duration_secs; mark = if l.is_extended then l.moment + l.duration_secs * 1000 else l.moment }

-- the places that entries stand for
abbrev pub seen_places : List (Key × Option Lease) → FinMap key_cmp (Option leases.LeaseEntry)
seen_places es = from_entries (map (λ e. (e.0, option_map plain_lease e.1)) es)

abbrev pub seen : FinMap key_cmp (Option Lease) → FinMap key_cmp (Option leases.LeaseEntry)
seen m = seen_places (entries m)

-- the entries of an app, by their keys
abbrev pub ids_with_app : List ℕ → List (List ℕ × Option Lease) → List (Key × Option Lease)
ids_with_app app es = map (λ e. (record { app = app; id = e.0 }, e.1)) es

-- the due moments and keys that entries stand for
abbrev pub seen_due : List ((ℕ × Key) × Unit {0}) → FinMap due_cmp (Unit {0})
seen_due es = from_entries es

-- whether the place has a lease that has run out
abbrev pub has_run_out : ℕ → Option Lease → Bool
has_run_out now place = is_some (passed now (option_map due_moment (option_map plain_lease place)))

-- of a place with a lease that has run out, its due moment and its key
abbrev pub pair : ℕ → Key × Option Lease → Option ((ℕ × Key) × Unit {0})
pair now e = option_map (λ m. ((m, e.0), tt)) (passed now (option_map due_moment (option_map plain_lease e.1)))

abbrev pub pairs : ℕ → List (Key × Option Lease) → List ((ℕ × Key) × Unit {0})
pairs now es = filter_map (pair now) es

-- what a pair has at a due moment and key, if it is there
abbrev pub at_pair : ℕ × Key → Option ((ℕ × Key) × Unit {0}) → Option (Unit {0})
at_pair q None = None
at_pair q (Some e) = if eq_by_cmp due_cmp q e.0 then Some tt else None
