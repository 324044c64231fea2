-- Records with the same row are the same.
use Rattle.std.proofs.Common.{◌≡◌, ◌≢◌, ℕ, ◌<◌, ◌^◌, List, [], ap}
use mathlib.Core.HLevel.{Σ_prop_path}
use Rattle.std.specs.Coded.{Coded-set, coded_list, coded_ℕ, le_prop}
use Rattle.disco_instance.specs.Row.{Row, row}
use Rattle.disco_values.specs.Text.{in_upper_case}
use Rattle.disco_instance.specs.declared.record.Record.{Record}

-- what a record knows of its members
abbrev Known : Row → Type 0
Known r = (r.key.app ≢ []) × (r.key.id ≢ []) × (in_upper_case r.key.app ≡ r.key.app) × (r.country_id < 2 ^ 31)
    × (0 < r.lease.duration_secs) × (r.lease.duration_secs < 2 ^ 31) × (r.lease.renewal_interval_secs < 2 ^ 31)

abbrev made : (r : Row) × Known r → Record
made p = let r = p.0 in record {
  key = r.key;
  country_id = r.country_id;
  details = record {
    data_center = r.data_center;
    health_check_url = r.health_check_url;
    home_page_url = r.home_page_url;
    status_page_url = r.status_page_url;
    host_name = r.host_name;
    ip_addr = r.ip_addr;
    metadata = r.metadata;
    secure_vip_address = r.secure_vip_address;
    vip_address = r.vip_address;
  };
  is_coordinating = r.is_coordinating;
  last_dirty = r.last_dirty;
  last_updated = r.last_updated;
  lease = r.lease;
  overridden_status = r.overridden_status;
  port = r.port;
  secure_port = r.secure_port;
  status = r.status;
  has_app = p.1.0;
  has_id = p.1.1;
  app_in_upper_case = p.1.2;
  country_in_range = p.1.3;
  lasts = p.1.4;
  duration_in_range = p.1.5;
  interval_in_range = p.1.6;
}

texts_set : IsSet (List ℕ)
texts_set = Coded-set (coded_list coded_ℕ)

lt_once : (m n : ℕ) → IsProp (m < n)
lt_once m n = le_prop

known_once : (r : Row) → IsProp (Known r)
known_once r = hlevel (texts_set, lt_once (r.country_id) (2 ^ 31), lt_once 0 (r.lease.duration_secs), lt_once (r.lease.duration_secs) (2 ^ 31), lt_once (r.lease.renewal_interval_secs) (2 ^ 31))

abbrev known : (r : Record) → Known (row r)
known r = (r.has_app, r.has_id, r.app_in_upper_case, r.country_in_range, r.lasts, r.duration_in_range, r.interval_in_range)

pub same_row : (a b : Record) → row a ≡ row b → a ≡ b
same_row a b e = ap made {x = (row a, known a)} {y = (row b, known b)} (Σ_prop_path known_once e)
