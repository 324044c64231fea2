-- The members of an instance in the groups in which they are written. Nothing here need be believed.
use Rattle.std.specs.Prelude.{ℕ, List, [], ◌∷◌, map, codes, Option, Some, None}
use Rattle.serde_json.specs.Data.{Data, Members, string}
use Rattle.disco_values.specs.Action.{action_name}
use Rattle.disco_instance.specs.Row.{Row}
use Rattle.disco_values.specs.Status.{status_name}
use Rattle.disco_instance.specs.declared.data_center.DataCenter.{DataCenter}
use Rattle.disco_instance.specs.declared.lease.Lease.{Lease}
use Rattle.disco_instance.specs.declared.port.Port.{Port}
use Rattle.disco_values.specs.declared.action.Action.{Action}
use Rattle.disco_wire.specs.Written.{in_order, truth, whole, digits_text, port_tree}

abbrev pub Fields : Type 0
Fields = List (List ℕ × Data)

abbrev pub port_fields : Port → Fields
port_fields p = (codes "$", whole p.number) ∷ (codes "@enabled", truth p.enabled) ∷ []

abbrev pub center_fields : DataCenter → Fields
center_fields c = (codes "@class", string c.class) ∷ (codes "name", string c.name) ∷ []

abbrev pub lease_fields : Lease → Fields
lease_fields l = (codes "durationInSecs", whole l.duration_secs) ∷ (codes "evictionTimestamp", whole l.eviction) ∷
    (codes "lastRenewalTimestamp", whole l.last_renewal)
    ∷ (codes "registrationTimestamp", whole l.registration) ∷ (codes "renewalIntervalInSecs", whole l.renewal_interval_secs) ∷
    (codes "serviceUpTimestamp", whole l.service_up) ∷ []

abbrev pub entry_fields : List (List ℕ × List ℕ) → Fields
entry_fields es = map (λ e. (e.0, string e.1)) es

abbrev pub metadata_members : List (List ℕ × List ℕ) → Members
metadata_members es = in_order (entry_fields es)

-- ---- groups of both forms

-- the action, if one is named
abbrev pub done_fields : Option Action → Fields
done_fields None = []
done_fields (Some a) = (codes "actionType", string (action_name a)) ∷ []

abbrev pub host_fields : Row → Fields
host_fields r = (codes "hostName", string r.host_name) ∷ (codes "instanceId", string r.key.id) ∷ (codes "ipAddr", string r.ip_addr) ∷ []

abbrev pub moment_fields : Row → Fields
moment_fields r = (codes "lastDirtyTimestamp", digits_text r.last_dirty) ∷ (codes "lastUpdatedTimestamp", digits_text r.last_updated) ∷ []

abbrev pub state_fields : Row → Fields
state_fields r = (codes "overriddenStatus", string (status_name r.overridden_status)) ∷ (codes "port", port_tree r.port) ∷
    (codes "securePort", port_tree r.secure_port)
    ∷ (codes "secureVipAddress", string r.secure_vip_address) ∷ (codes "status", string (status_name r.status)) ∷ []
