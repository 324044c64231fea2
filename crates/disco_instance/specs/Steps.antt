-- What private contracts say of a record. Nothing here is to be believed: no public contract rests on it.
use Rattle.std.specs.Prelude.{[], codes, false, true, unwrap_or, ◌<◌, ◌≡◌, ◌≢◌, ◌^◌}
use Rattle.serde_json.specs.Data.{Data}
use Rattle.disco_instance.specs.Members.{flag_at, inner_at, number_at, override_at, port_at, status_at, text_or_empty}
use Rattle.disco_instance.specs.Metadata.{entries_at}
use Rattle.disco_values.specs.Text.{in_upper_case}
use Rattle.disco_values.specs.declared.key.Key.{Key}
use Rattle.disco_instance.specs.declared.details.Details.{Details}
use Rattle.disco_instance.specs.declared.lease.Lease.{Lease}
use Rattle.disco_instance.specs.declared.parts.Addresses.{Addresses}
use Rattle.disco_instance.specs.declared.parts.Pages.{Pages}
use Rattle.disco_instance.specs.declared.parts.Rest.{Rest}
use Rattle.disco_instance.specs.declared.record.Record.{Record}
use Rattle.disco_values.specs.declared.status.Status.TheVariants.{Up}
use Rattle.disco_instance.specs.Instance.{data_center_at, lease_in}

-- a lease that a record may have
pub record IsRecordLease (l : Lease) : Type 0 where
  pub lasts : 0 < l.duration_secs
  pub duration : l.duration_secs < 2 ^ 31
  pub interval : l.renewal_interval_secs < 2 ^ 31

-- what a tree says of a record but for its details
pub record SaysRest (d : Data) (r : Record) : Type 0 where
  pub country : r.country_id ≡ number_at (codes "countryId") 0 2147483647 1 d
  pub is_coordinating : r.is_coordinating ≡ unwrap_or (flag_at (codes "isCoordinatingDiscoveryServer") d) false
  pub last_dirty : r.last_dirty ≡ number_at (codes "lastDirtyTimestamp") 0 18446744073709551615 0 d
  pub last_updated : r.last_updated ≡ number_at (codes "lastUpdatedTimestamp") 0 18446744073709551615 0 d
  pub lease : r.lease ≡ lease_in (inner_at (codes "leaseInfo") d)
  pub overridden_status : r.overridden_status ≡ override_at d
  pub port : r.port ≡ port_at (codes "port") 7001 true d
  pub secure_port : r.secure_port ≡ port_at (codes "securePort") 7002 false d
  pub status : r.status ≡ status_at (codes "status") Up d

-- the rest of a record as a tree says it, but for the key
pub record IsRestOf (d : Data) (r : Rest) : Type 0 where
  pub overridden_status : r.overridden_status ≡ override_at d
  pub status : r.status ≡ status_at (codes "status") Up d

-- the details have these pages and addresses
pub record HasPagesAndAddresses (p : Pages) (a : Addresses) (x : Details) : Type 0 where
  pub health_check_url : x.health_check_url ≡ p.health_check_url
  pub home_page_url : x.home_page_url ≡ p.home_page_url
  pub status_page_url : x.status_page_url ≡ p.status_page_url
  pub host_name : x.host_name ≡ a.host_name
  pub ip_addr : x.ip_addr ≡ a.ip_addr
  pub secure_vip_address : x.secure_vip_address ≡ a.secure_vip_address
  pub vip_address : x.vip_address ≡ a.vip_address

-- what a tree says of the details of a record
pub record SaysDetails (d : Data) (x : Details) : Type 0 where
  pub data_center : x.data_center ≡ data_center_at d
  pub health_check_url : x.health_check_url ≡ text_or_empty (codes "healthCheckUrl") d
  pub home_page_url : x.home_page_url ≡ text_or_empty (codes "homePageUrl") d
  pub status_page_url : x.status_page_url ≡ text_or_empty (codes "statusPageUrl") d
  pub host_name : x.host_name ≡ text_or_empty (codes "hostName") d
  pub ip_addr : x.ip_addr ≡ text_or_empty (codes "ipAddr") d
  pub metadata : x.metadata ≡ entries_at (codes "metadata") d
  pub secure_vip_address : x.secure_vip_address ≡ text_or_empty (codes "secureVipAddress") d
  pub vip_address : x.vip_address ≡ text_or_empty (codes "vipAddress") d

-- a key that a record may have
pub record IsRecordKey (k : Key) : Type 0 where
  pub has_app : k.app ≢ []
  pub has_id : k.id ≢ []
  pub upper : in_upper_case k.app ≡ k.app
