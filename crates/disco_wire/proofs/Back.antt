-- A written tree means what was written.
use Rattle.std.proofs.Common.{◌≡◌, ℕ, ◌<◌, ◌^◌, Bool, true, false, ◌&&◌, nat_le, decimal, cond, List, [], codes, Option, Some, None, option_map, option_and_then, unwrap_or, Ok, refl, ap, arith}
use Rattle.std.specs.Option.{ok_or, option_or}
use Rattle.disco_instance.specs.declared.lease.Lease.{Lease}
use Rattle.disco_instance.specs.declared.port.Port.{Port}
use Rattle.disco_values.specs.declared.fault.Fault.TheVariants.{MissingField}
use Rattle.disco_values.specs.declared.fault.Field.TheVariants.{InstanceId, App}
use Rattle.disco_values.specs.declared.status.Status.{Status}
use Rattle.disco_values.specs.declared.status.Status.TheVariants.{Unknown, Up}
use Rattle.disco_values.specs.Status.{status_name, status_named}
use Rattle.disco_instance.specs.Row.{Row, IsWellFormed}
use Rattle.disco_values.specs.Text.{in_upper_case}
use Rattle.disco_instance.specs.Instance.{if_ok, key_at, row_at, action_at, lease_in}
use Rattle.disco_instance.specs.Members.{not_empty, port_at}
use Rattle.disco_values.specs.Digits.{digits_number}
use Rattle.disco_wire.specs.Meaning.{told_in}
use Rattle.disco_values.specs.declared.form.Form.{Form}
use Rattle.disco_values.specs.declared.form.Form.TheVariants.{Full, Compact}
use Rattle.disco_history.specs.Change.{Entry}
use Rattle.disco_history.specs.Forms.{default_lease, formed}
use Rattle.disco_wire.specs.Written.{instance_tree, port_tree, lease_tree}
use Rattle.disco_wire.specs.Laws.{InstanceLaw}
use Rattle.disco_wire.proofs.Again.{in_range, flag_again, status_again, action_again, text_again, entries_again}
use Rattle.disco_values.proofs.Parsed.{digits_again}
use Rattle.serde_json.specs.Data.{object, member, no_members}

pub_port : (p : Port) (default : ℕ) (enabled : Bool) → p.number < 2 ^ 16 → port_at (codes "port") default enabled (object (member (codes "port") (port_tree p) no_members)) ≡ p
pub_port p default enabled small = λ i. record { number = in_range 0 65535 default p.number (omega arith) (omega arith) i; enabled = unwrap_or (flag_again p.enabled i) enabled }

lease_again : (l : Lease) → 0 < l.duration_secs → l.duration_secs < 2 ^ 31 → l.renewal_interval_secs < 2 ^ 31 → l.eviction < 2 ^ 64 → l.last_renewal < 2 ^ 64 → l.registration < 2 ^ 64 → l.service_up < 2 ^ 64 → lease_in (lease_tree l) ≡ l
lease_again l a b c d e f g = λ i. record {
  duration_secs = in_range 1 2147483647 90 l.duration_secs (omega arith) (omega arith) i;
  renewal_interval_secs = in_range 0 2147483647 30 l.renewal_interval_secs (omega arith) (omega arith) i;
  eviction = in_range 0 18446744073709551615 0 l.eviction (omega arith) (omega arith) i;
  last_renewal = in_range 0 18446744073709551615 0 l.last_renewal (omega arith) (omega arith) i;
  registration = in_range 0 18446744073709551615 0 l.registration (omega arith) (omega arith) i;
  service_up = in_range 0 18446744073709551615 0 l.service_up (omega arith) (omega arith) i;
}

moment_again : (n : ℕ) → n < 2 ^ 64 → unwrap_or (option_and_then (λ x. cond (nat_le 0 x && nat_le x 18446744073709551615) (Some x) None) (digits_number (decimal n))) 0 ≡ n
moment_again n small = rw (digits_again n small) (in_range 0 18446744073709551615 0 n (omega arith) (omega arith))

key_again : (r : Row) → IsWellFormed r → if_ok (ok_or (option_or (not_empty r.key.id) (not_empty r.host_name)) (MissingField InstanceId)) (λ id.
    if_ok (ok_or (not_empty r.key.app) (MissingField App)) (λ app. Ok (record { app = in_upper_case app; id = id }))) ≡ Ok r.key
key_again r is = rw (text_again r.key.id is.has_id, text_again r.key.app is.has_app) (λ i. Ok (record { app = is.app_in_upper_case i; id = r.key.id }))

app_first : (a b : Option (List ℕ)) (s : List ℕ) → a ≡ Some s → option_or a b ≡ a
app_first None b s e = absurd (cc)
app_first (Some x) b s e = refl

instance_key : (f : Form) (e : Entry) (app : Option (List ℕ)) → IsWellFormed e.0 → key_at app (instance_tree f e) ≡ Ok e.0.key
unfolding instance_tree
instance_key Full e app is = rw (app_first (not_empty e.0.key.app) (option_and_then not_empty app) e.0.key.app (text_again e.0.key.app is.has_app)) (key_again e.0 is)
instance_key Compact e app is = rw (app_first (not_empty e.0.key.app) (option_and_then not_empty app) e.0.key.app (text_again e.0.key.app is.has_app)) (key_again e.0 is)

status_of : (s d : Status) → unwrap_or (option_map (λ t. unwrap_or (status_named (in_upper_case t)) Unknown) (Some (status_name s))) d ≡ s
status_of s d = ap (λ o. unwrap_or o Unknown) (status_again s)

instance_row : (f : Form) (e : Entry) → IsWellFormed e.0 → row_at (instance_tree f e) e.0.key ≡ formed f e.0
unfolding instance_tree row_at
instance_row Full e is =
    let r = e.0 in
    λ i. record {
      key = r.key;
      country_id = in_range 0 2147483647 1 r.country_id (omega (arith, is.country)) (omega (arith, is.country)) i;
      data_center = r.data_center;
      health_check_url = r.health_check_url;
      home_page_url = r.home_page_url;
      status_page_url = r.status_page_url;
      host_name = r.host_name;
      ip_addr = r.ip_addr;
      is_coordinating = unwrap_or (flag_again r.is_coordinating i) false;
      last_dirty = moment_again r.last_dirty is.last_dirty i;
      last_updated = moment_again r.last_updated is.last_updated i;
      lease = lease_again r.lease is.lasts is.duration is.renewal_interval is.eviction is.last_renewal is.registration is.service_up i;
      metadata = entries_again r.metadata is.metadata i;
      overridden_status = status_of r.overridden_status Unknown i;
      port = pub_port r.port 7001 true is.port i;
      secure_port = pub_port r.secure_port 7002 false is.secure_port i;
      secure_vip_address = r.secure_vip_address;
      vip_address = r.vip_address;
      status = status_of r.status Up i;
    }
instance_row Compact e is =
    let r = e.0 in
    λ i. record {
      key = r.key;
      country_id = 1;
      data_center = r.data_center;
      health_check_url = [];
      home_page_url = [];
      status_page_url = [];
      host_name = r.host_name;
      ip_addr = r.ip_addr;
      is_coordinating = false;
      last_dirty = moment_again r.last_dirty is.last_dirty i;
      last_updated = moment_again r.last_updated is.last_updated i;
      lease = default_lease;
      metadata = [];
      overridden_status = status_of r.overridden_status Unknown i;
      port = pub_port r.port 7001 true is.port i;
      secure_port = pub_port r.secure_port 7002 false is.secure_port i;
      secure_vip_address = r.secure_vip_address;
      vip_address = r.vip_address;
      status = status_of r.status Up i;
    }

instance_action : (f : Form) (e : Entry) → action_at (instance_tree f e) ≡ Some e.1
unfolding instance_tree
instance_action Full e = action_again e.1
instance_action Compact e = action_again e.1

pub instance_law : InstanceLaw
unfolding told_in
instance_law f e app is = rw (instance_key f e app is, instance_row f e is, instance_action f e) refl
