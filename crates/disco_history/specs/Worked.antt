-- The definitions computed on small examples.
use Rattle.std.specs.Prelude.{◌≡◌, ℕ, true, false, List, [], ◌∷◌, map, codes, Some, None}
use Rattle.std.specs.FinMap.{get}
use Rattle.disco_instance.specs.Row.{Row}
use Rattle.disco_values.specs.declared.action.Action.TheVariants.{Added, Modified, Deleted}
use Rattle.disco_values.specs.declared.form.Form.TheVariants.{Full, Compact}
use Rattle.disco_values.specs.declared.key.Key.{Key}
use Rattle.disco_values.specs.declared.status.Status.{Status}
use Rattle.disco_values.specs.declared.status.Status.TheVariants.{Up, Down, Unknown}
use Rattle.disco_history.specs.Change.{Entry, prefix}
use Rattle.disco_history.specs.Forms.{default_lease, formed}
use Rattle.disco_history.specs.Hash.{hash, then_piece}
use Rattle.disco_history.specs.Mentions.{delta, mention_of, overlay}
use Rattle.disco_history.specs.Query.{of_app, of_vip, restrict, vips}
use Rattle.disco_history.specs.Registry.{registry_of, mentions_of}

abbrev pub key : List ℕ → List ℕ → Key
key app id = record { app = app; id = id }

-- an instance of that key and status, with two vips
abbrev pub instance : List ℕ → List ℕ → Status → Row
instance app id status = record {
  key = key app id;
  country_id = 7;
  data_center = record { class = []; name = codes "MyOwn" };
  health_check_url = codes "http://h/health";
  home_page_url = [];
  status_page_url = [];
  host_name = codes "h";
  ip_addr = codes "10.0.0.1";
  is_coordinating = true;
  last_dirty = 5;
  last_updated = 6;
  lease = record default_lease { duration_secs = 30 };
  metadata = (codes "zone", codes "z1") ∷ [];
  overridden_status = Unknown;
  port = record { number = 80; enabled = true };
  secure_port = record { number = 443; enabled = false };
  secure_vip_address = [];
  vip_address = codes ",a,,b";
  status = status;
}

abbrev pub a1 : Key
a1 = key (codes "A") (codes "1")

abbrev pub b1 : Key
b1 = key (codes "B") (codes "1")

-- A/1 comes up and goes down, B/1 comes up and goes
abbrev pub story : List Entry
story =
    (instance (codes "A") (codes "1") Up, Added) ∷ (instance (codes "B") (codes "1") Up, Added) ∷
    (instance (codes "A") (codes "1") Down, Modified) ∷ (instance (codes "B") (codes "1") Down, Deleted) ∷ []

pub record Worked : Type 0 where
  pub hash_code : hash (instance (codes "A") (codes "1") Up ∷ instance (codes "A") (codes "2") Down ∷ instance (codes "B") (codes "1") Up ∷ []) ≡
      codes "DOWN_1_UP_2_"
  pub count_of_two_digits : then_piece (codes "UP") 10 [] ≡ codes "UP_10_"
  pub empty_hash_code : hash [] ≡ []
  pub vips_of : vips (codes ",a,,b") ≡ codes "a" ∷ codes "b" ∷ []
  pub registry : get (registry_of story) a1 ≡ Some (instance (codes "A") (codes "1") Down)
  pub registry_lacks : get (registry_of story) b1 ≡ None
  pub registry_before : get (registry_of (prefix story 3)) b1 ≡ Some (instance (codes "B") (codes "1") Up)
  pub mention : get (mentions_of story (registry_of story)) a1 ≡ Some (instance (codes "A") (codes "1") Down, Modified)
  pub delta_last : get (delta story 0) a1 ≡ Some (instance (codes "A") (codes "1") Down, Modified)
  pub delta_gone : get (delta story 2) b1 ≡ Some (instance (codes "B") (codes "1") Down, Deleted)
  pub delta_none : get (delta story 3) a1 ≡ None
  pub overlay_puts : get (overlay (registry_of (prefix story 1)) (map mention_of story)) a1 ≡ Some (instance (codes "A") (codes "1") Down)
  pub overlay_takes : get (overlay (registry_of (prefix story 2)) (map mention_of story)) b1 ≡ None
  pub overlay_skips : get (overlay (registry_of (prefix story 1)) ((instance (codes "A") (codes "1") Down, None) ∷ [])) a1 ≡
      Some (instance (codes "A") (codes "1") Up)
  pub vip_has : get (restrict (registry_of (prefix story 1)) (of_vip (codes "b"))) a1 ≡ Some (instance (codes "A") (codes "1") Up)
  pub vip_lacks : get (restrict (registry_of (prefix story 1)) (of_vip (codes "a,,b"))) a1 ≡ None
  pub app_lacks : get (restrict (registry_of (prefix story 1)) (of_app (codes "B"))) a1 ≡ None
  pub compact : (formed Compact (instance (codes "A") (codes "1") Up)).country_id ≡ 1
  pub full : formed Full (instance (codes "A") (codes "1") Up) ≡ instance (codes "A") (codes "1") Up
