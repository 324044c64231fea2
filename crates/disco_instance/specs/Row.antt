-- A record as plain data: its members, without where they lie in memory.
use Rattle.std.specs.Prelude.{◌≡◌, ◌≢◌, ℕ, ◌<◌, ◌^◌, Bool, true, List, []}
use Rattle.disco_values.specs.Entries.{is_by_name}
use Rattle.disco_values.specs.Text.{in_upper_case}
use Rattle.disco_values.specs.declared.key.Key.{Key}
use Rattle.disco_values.specs.declared.status.Status.{Status}
use Rattle.disco_instance.specs.declared.record.Record.{Record}
use Rattle.disco_instance.specs.declared.lease.Lease.{Lease}
use Rattle.disco_instance.specs.declared.port.Port.{Port}
use Rattle.disco_instance.specs.declared.data_center.DataCenter.{DataCenter}

-- the members of a record
pub record Row : Type 0 where
  pub key : Key
  pub country_id : ℕ
  pub data_center : DataCenter
  pub health_check_url : List ℕ
  pub home_page_url : List ℕ
  pub status_page_url : List ℕ
  pub host_name : List ℕ
  pub ip_addr : List ℕ
  pub is_coordinating : Bool
  pub last_dirty : ℕ
  pub last_updated : ℕ
  pub lease : Lease
  pub metadata : List (List ℕ × List ℕ)
  pub overridden_status : Status
  pub port : Port
  pub secure_port : Port
  pub secure_vip_address : List ℕ
  pub vip_address : List ℕ
  pub status : Status

abbrev pub row : Record → Row
row r = record {
  key = r.key;
  country_id = r.country_id;
  data_center = r.details.data_center;
  health_check_url = r.details.health_check_url;
  home_page_url = r.details.home_page_url;
  status_page_url = r.details.status_page_url;
  host_name = r.details.host_name;
  ip_addr = r.details.ip_addr;
  is_coordinating = r.is_coordinating;
  last_dirty = r.last_dirty;
  last_updated = r.last_updated;
  lease = r.lease;
  metadata = r.details.metadata;
  overridden_status = r.overridden_status;
  port = r.port;
  secure_port = r.secure_port;
  secure_vip_address = r.details.secure_vip_address;
  vip_address = r.details.vip_address;
  status = r.status;
}

-- a well-formed record: what is true of the members of every record
pub record IsWellFormed (r : Row) : Type 0 where
  pub has_app : r.key.app ≢ []
  pub has_id : r.key.id ≢ []
  pub app_in_upper_case : in_upper_case r.key.app ≡ r.key.app
  pub country : r.country_id < 2 ^ 31
  pub last_dirty : r.last_dirty < 2 ^ 64
  pub last_updated : r.last_updated < 2 ^ 64
  pub lasts : 0 < r.lease.duration_secs
  pub duration : r.lease.duration_secs < 2 ^ 31
  pub renewal_interval : r.lease.renewal_interval_secs < 2 ^ 31
  pub eviction : r.lease.eviction < 2 ^ 64
  pub last_renewal : r.lease.last_renewal < 2 ^ 64
  pub registration : r.lease.registration < 2 ^ 64
  pub service_up : r.lease.service_up < 2 ^ 64
  pub port : r.port.number < 2 ^ 16
  pub secure_port : r.secure_port.number < 2 ^ 16
  pub metadata : is_by_name r.metadata ≡ true
