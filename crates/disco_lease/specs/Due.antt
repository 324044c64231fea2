-- Which leases have run out, and which of them one run takes. Moments are in milliseconds.
use Rattle.std.specs.Prelude.{ℕ, ◌+◌, ◌-◌, ◌*◌, ◌/◌, Bool, ◌&&◌, nat_lt, if◌then◌else◌, List, [], map, take, Option, Some, None, is_some, option_and_then, option_map}
use Rattle.std.specs.FinMap.{FinMap, from_entries, keys}
use Rattle.std.specs.List.{filter_map}
use Rattle.std.specs.Ordering.{nat_cmp, ordering_then}
use Rattle.std.specs.declared.cmp.Ordering.{Ordering}
use Rattle.disco_values.specs.Key.{key_cmp}
use Rattle.disco_values.specs.declared.key.Key.{Key}
use Rattle.disco_lease.specs.Leases.{LeaseEntry, Leases, lease_at}
use Rattle.disco_lease.specs.declared.minute.Minute.{Minute}

-- when a lease runs out: its duration after its mark
abbrev pub due_moment : LeaseEntry → ℕ
due_moment l = l.mark + l.duration_secs * 1000

-- when the lease of a key runs out, if it has one
abbrev pub due_at : Leases → Key → Option ℕ
due_at v k = option_map due_moment (lease_at v k)

-- by due moment, then by app, then by id (this project's own rule)
abbrev pub due_cmp : ℕ × Key → ℕ × Key → Ordering
due_cmp a b = ordering_then (nat_cmp a.0 b.0) (key_cmp a.1 b.1)

-- the due moment, if it is over
abbrev pub passed : ℕ → Option ℕ → Option ℕ
passed now due = option_and_then (λ m. if nat_lt m now then Some m else None) due

-- whether a lease that runs out then, if there is one, has run out by a moment
abbrev pub is_overdue : ℕ → Option ℕ → Bool
is_overdue now due = is_some (passed now due)

-- those of the keys whose lease has run out by a moment, by due moment and then by key; at its due moment it hasn't
unfoldable pub overdue : (Key → Option ℕ) → List Key → ℕ → FinMap due_cmp (Unit {0})
overdue due ks now = from_entries (filter_map (λ k. option_map (λ m. ((m, k), tt)) (passed now (due k))) ks)

-- 85 of 100 renewals that so many instances send in a minute, at two each
abbrev pub renewals_needed : ℕ → ℕ
renewals_needed instances = instances * 2 * 85 / 100

-- what the last minute kept lets leases run out: self-preservation stops it where too few renewals came
abbrev pub lets_expire : Minute → Bool
lets_expire m = nat_lt 0 (renewals_needed m.instances) && nat_lt (renewals_needed m.instances) m.renewals

-- how many of so many instances one run takes at most: 85 of 100, rounded down, stay
abbrev pub most_taken : ℕ → ℕ
most_taken held = held - held * 85 / 100

-- the keys that one run takes at a moment, of so many held instances, whose leases run out when due says
abbrev pub taken : Minute → (Key → Option ℕ) → List Key → ℕ → ℕ → List Key
taken minute due ks held now = if lets_expire minute then take (most_taken held) (map (λ d. d.1) (keys (overdue due ks now))) else []
