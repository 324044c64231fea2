-- The member table: what a JSON tree says of an instance (Eureka's REST operations; ranges are this project's own rule).
use Rattle.std.specs.Prelude.{ℕ, ◌≡◌, ◌≢◌, true, false, List, codes, Option, Result, Ok, Err, option_and_then, unwrap_or}
use Rattle.std.specs.Option.{ok_or, option_or}
use Rattle.serde_json.specs.Data.{Data}
use Rattle.disco_values.specs.Action.{action_named}
use Rattle.disco_instance.specs.Members.{flag_at, inner_at, non_empty_at, not_empty, number_at, override_at, port_at, status_at, text_at, text_or_empty}
use Rattle.disco_instance.specs.Metadata.{entries_at}
use Rattle.disco_instance.specs.Row.{Row}
use Rattle.disco_values.specs.Text.{in_upper_case}
use Rattle.disco_values.specs.declared.action.Action.{Action}
use Rattle.disco_instance.specs.declared.data_center.DataCenter.{DataCenter}
use Rattle.disco_values.specs.declared.fault.Fault.{Fault}
use Rattle.disco_values.specs.declared.fault.Fault.TheVariants.{OutOfMemory, MissingField}
use Rattle.disco_values.specs.declared.fault.Field.TheVariants as fields
use Rattle.disco_values.specs.declared.key.Key.{Key}
use Rattle.disco_instance.specs.declared.lease.Lease.{Lease}
use Rattle.disco_values.specs.declared.status.Status.TheVariants.{Up}

-- the result of a call, seen by a function, is this, unless memory ran out
abbrev pub Gives : {X Y : Type 0} → (X → Y) → Result X Fault → Result Y Fault → Type 0
Gives view (Ok x) wanted = wanted ≡ Ok (view x)
Gives view (Err e) wanted = e ≢ OutOfMemory → wanted ≡ Err e

-- what f makes of an answer, where there is one
abbrev pub if_ok : {A B : Type 0} → Result A Fault → (A → Result B Fault) → Result B Fault
if_ok (Ok x) f = f x
if_ok (Err e) f = Err e

-- ---- the key

-- the id, or the host's name where no id is given
abbrev pub id_at : Data → Option (List ℕ)
id_at d = option_or (non_empty_at (codes "instanceId") d) (non_empty_at (codes "hostName") d)

-- the app's name, or that of the enclosing application where none is given
abbrev pub app_at : Option (List ℕ) → Data → Option (List ℕ)
app_at within d = option_or (non_empty_at (codes "app") d) (option_and_then not_empty within)

-- the key, or the first of its parts that is missing
abbrev pub key_at : Option (List ℕ) → Data → Result Key Fault
key_at within d = if_ok (ok_or (id_at d) (MissingField fields.InstanceId)) (λ id.
    if_ok (ok_or (app_at within d) (MissingField fields.App)) (λ app. Ok (record { app = in_upper_case app; id = id })))

-- ---- the other members

abbrev pub data_center_at : Data → DataCenter
data_center_at d = let inner = inner_at (codes "dataCenterInfo") d in record {
  class = unwrap_or (text_at (codes "@class") inner) (codes "com.netflix.appinfo.InstanceInfo$DefaultDataCenterInfo");
  name = unwrap_or (text_at (codes "name") inner) (codes "MyOwn");
}

abbrev pub lease_in : Data → Lease
lease_in d = record {
  duration_secs = number_at (codes "durationInSecs") 1 2147483647 90 d;
  renewal_interval_secs = number_at (codes "renewalIntervalInSecs") 0 2147483647 30 d;
  eviction = number_at (codes "evictionTimestamp") 0 18446744073709551615 0 d;
  last_renewal = number_at (codes "lastRenewalTimestamp") 0 18446744073709551615 0 d;
  registration = number_at (codes "registrationTimestamp") 0 18446744073709551615 0 d;
  service_up = number_at (codes "serviceUpTimestamp") 0 18446744073709551615 0 d;
}

-- the row of that key that a tree says
unfoldable pub row_at : Data → Key → Row
row_at d k = record {
  key = k;
  country_id = number_at (codes "countryId") 0 2147483647 1 d;
  data_center = data_center_at d;
  health_check_url = text_or_empty (codes "healthCheckUrl") d;
  home_page_url = text_or_empty (codes "homePageUrl") d;
  status_page_url = text_or_empty (codes "statusPageUrl") d;
  host_name = text_or_empty (codes "hostName") d;
  ip_addr = text_or_empty (codes "ipAddr") d;
  is_coordinating = unwrap_or (flag_at (codes "isCoordinatingDiscoveryServer") d) false;
  last_dirty = number_at (codes "lastDirtyTimestamp") 0 18446744073709551615 0 d;
  last_updated = number_at (codes "lastUpdatedTimestamp") 0 18446744073709551615 0 d;
  lease = lease_in (inner_at (codes "leaseInfo") d);
  metadata = entries_at (codes "metadata") d;
  overridden_status = override_at d;
  port = port_at (codes "port") 7001 true d;
  secure_port = port_at (codes "securePort") 7002 false d;
  secure_vip_address = text_or_empty (codes "secureVipAddress") d;
  vip_address = text_or_empty (codes "vipAddress") d;
  status = status_at (codes "status") Up d;
}

-- what a tree says of an instance within an application of that name, or what is missing
abbrev pub told_by : Option (List ℕ) → Data → Result Row Fault
told_by within d = if_ok (key_at within d) (λ k. Ok (row_at d k))

-- the action that the tree names, if any
abbrev pub action_at : Data → Option Action
action_at d = option_and_then action_named (text_at (codes "actionType") d)
