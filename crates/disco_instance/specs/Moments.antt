-- The moments that the registry sets in a record, all of them this project's own rule.
use Rattle.std.specs.Prelude.{ℕ}
use Rattle.disco_instance.specs.Row.{Row}
use Rattle.disco_instance.specs.Since.{since}
use Rattle.disco_values.specs.declared.status.Status.{Status}

-- the record that is put at a moment with a status and an override, registered at a moment, and up since the held moment where there is one
abbrev pub put_at : Row → Status → Status → ℕ → ℕ → ℕ → Row
put_at r status overridden registration held_up now = record r {
  status = status;
  overridden_status = overridden;
  last_updated = now;
  lease = record r.lease { last_renewal = now; eviction = 0; registration = registration; service_up = since held_up status now };
}

-- the last record of an instance that is cancelled at a moment
abbrev pub cancelled_at : Row → ℕ → Row
cancelled_at r now = record r { last_updated = now; lease = record r.lease { eviction = now } }

-- the record that a change of its status or its override puts
abbrev pub modified_at : Row → Status → Status → ℕ → Row
modified_at r status overridden now = put_at r status overridden r.lease.registration r.lease.service_up now
