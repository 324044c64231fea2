-- The record that a registration puts, by the posted and the held record (after Eureka's rules for dirty records and
-- for overrides; that an override belongs to an app and an id together is this project's own rule).
use Rattle.std.specs.Prelude.{ℕ, Bool, ◌||◌, nat_lt, if◌then◌else◌, Option}
use Rattle.std.specs.Option.{option_map_or}
use Rattle.disco_instance.specs.Moments.{put_at}
use Rattle.disco_instance.specs.Row.{Row}
use Rattle.disco_values.specs.Status.{is_same}
use Rattle.disco_values.specs.declared.status.Status.{Status}
use Rattle.disco_values.specs.declared.status.Status.TheVariants.{Up, OutOfService, Unknown}

-- the registrant: the posted record, or the held one where that is the later change
abbrev pub registrant : Option Row → Row → Row
registrant held posted = option_map_or (λ h. if nat_lt posted.last_dirty h.last_dirty then h else posted) held posted

-- a status, or another where it is Unknown
abbrev pub known_or : Status → Status → Status
known_or status other = if is_same status Unknown then other else status

-- the override: the held one where there is one, else the registrant's own
abbrev pub override_of : Option Row → Status → Status
override_of held own = option_map_or (λ h. known_or h.overridden_status own) held own

-- the statuses that give way to an override and to the held status
abbrev pub is_open : Status → Bool
is_open status = is_same status Up || is_same status OutOfService

-- the status, by the order of Eureka's rules for overrides: the first that applies of the registrant's, where it is not open, the override, the held
-- one, where it is open, and the registrant's
abbrev pub settled_status : Option Row → Status → Status → Status
settled_status held overridden own =
    if is_open own then known_or overridden (option_map_or (λ h. if is_open h.status then h.status else own) held own) else own

-- the record that a registration at a moment puts
abbrev pub settle : Option Row → Row → ℕ → Row
settle held posted now =
    let r = registrant held posted in
    let overridden = override_of held r.overridden_status in
    put_at r (settled_status held overridden r.status) overridden now (option_map_or (λ h. h.lease.service_up) held 0) now
