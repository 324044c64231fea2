-- The form of a record (this project's own rule).
use Rattle.std.specs.Prelude.{false, [], option_map}
use Rattle.std.specs.FinMap.{FinMap, get, keys}
use Rattle.disco_values.specs.Key.{key_cmp}
use Rattle.disco_instance.specs.Row.{Row}
use Rattle.disco_values.specs.declared.form.Form.{Form}
use Rattle.disco_values.specs.declared.form.Form.TheVariants.{Full, Compact}
use Rattle.disco_instance.specs.declared.lease.Lease.{Lease}
use Rattle.disco_history.specs.MapAt.{map_at}
use Rattle.disco_instance.specs.Mention.{Mention}

-- the lease of an instance that names none
abbrev pub default_lease : Lease
default_lease = record { duration_secs = 90; renewal_interval_secs = 30; eviction = 0; last_renewal = 0; registration = 0; service_up = 0 }

-- the compact form leaves out members, which are then read as their defaults
abbrev pub formed : Form → Row → Row
formed Full r = r
formed Compact r = record r {
  country_id = 1;
  health_check_url = [];
  home_page_url = [];
  status_page_url = [];
  is_coordinating = false;
  lease = default_lease;
  metadata = [];
}

-- a mention in a form
abbrev pub mention_in : Form → Mention → Mention
mention_in f m = (formed f m.0, m.1)

-- the records in a form
abbrev pub in_form : Form → FinMap key_cmp Row → FinMap key_cmp Row
in_form f s = map_at (λ k. option_map (formed f) (get s k)) (keys s)
