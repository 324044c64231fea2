-- The tree that is written for an instance, for an application and for a document (the JSON of Eureka's REST operations).
use Rattle.std.specs.Prelude.{ℕ, List, [], ◌∷◌, map, filter, codes, Bool, true, false, if◌then◌else◌, decimal}
use Rattle.std.specs.Str.{bytes_eq}
use Rattle.serde_json.specs.Data.{Data, number, string, array, object, Members, no_members, member, unsigned}
use Rattle.serde_json.specs.View.{items_of}
use Rattle.disco_values.specs.Action.{action_name}
use Rattle.disco_values.specs.Status.{status_name}
use Rattle.disco_instance.specs.declared.data_center.DataCenter.{DataCenter}
use Rattle.disco_values.specs.declared.form.Form.{Form}
use Rattle.disco_values.specs.declared.form.Form.TheVariants.{Full, Compact}
use Rattle.disco_instance.specs.declared.lease.Lease.{Lease}
use Rattle.disco_instance.specs.declared.port.Port.{Port}
use Rattle.disco_history.specs.Change.{Entry}
use Rattle.disco_history.specs.Query.{Selector, of_app, of_key}

-- members in this order
abbrev pub in_order : List (List ℕ × Data) → Members
in_order [] = no_members
in_order (f ∷ fs) = member f.0 f.1 (in_order fs)

abbrev pub tree : List (List ℕ × Data) → Data
tree fs = object (in_order fs)

-- a truth value by its name
abbrev pub truth : Bool → Data
truth b = string (if b then codes "true" else codes "false")

-- a whole number
abbrev pub whole : ℕ → Data
whole n = number (unsigned n)

-- a whole number as a text of its digits
abbrev pub digits_text : ℕ → Data
digits_text n = string (decimal n)

abbrev pub port_tree : Port → Data
port_tree p = tree ((codes "$", whole p.number) ∷ (codes "@enabled", truth p.enabled) ∷ [])

abbrev pub data_center_tree : DataCenter → Data
data_center_tree c = tree ((codes "@class", string c.class) ∷ (codes "name", string c.name) ∷ [])

abbrev pub lease_tree : Lease → Data
lease_tree l = tree (
    (codes "durationInSecs", whole l.duration_secs) ∷
    (codes "evictionTimestamp", whole l.eviction) ∷
    (codes "lastRenewalTimestamp", whole l.last_renewal) ∷
    (codes "registrationTimestamp", whole l.registration) ∷
    (codes "renewalIntervalInSecs", whole l.renewal_interval_secs) ∷
    (codes "serviceUpTimestamp", whole l.service_up) ∷ [])

abbrev pub metadata_tree : List (List ℕ × List ℕ) → Data
metadata_tree es = tree (map (λ e. (e.0, string e.1)) es)

-- a member, and whether the compact form has it
abbrev pub Marked : Type 0
Marked = Bool × (List ℕ × Data)

-- a member of both forms
abbrev pub both : List ℕ → Data → Marked
both name d = (true, (name, d))

-- a member of the full form alone
abbrev pub full : List ℕ → Data → Marked
full name d = (false, (name, d))

-- the members that a form has
abbrev pub members_in : Form → List Marked → List (List ℕ × Data)
members_in Full ms = map (λ m. m.1) ms
members_in Compact ms = map (λ m. m.1) (filter (λ m. m.0) ms)

-- an instance in a form: its members in byte order of their names
unfoldable pub instance_tree : Form → Entry → Data
instance_tree f e = let r = e.0 in tree (members_in f (
    both (codes "actionType") (string (action_name e.1)) ∷
    both (codes "app") (string r.key.app) ∷
    full (codes "countryId") (whole r.country_id) ∷
    both (codes "dataCenterInfo") (data_center_tree r.data_center) ∷
    full (codes "healthCheckUrl") (string r.health_check_url) ∷
    full (codes "homePageUrl") (string r.home_page_url) ∷
    both (codes "hostName") (string r.host_name) ∷
    both (codes "instanceId") (string r.key.id) ∷
    both (codes "ipAddr") (string r.ip_addr) ∷
    full (codes "isCoordinatingDiscoveryServer") (truth r.is_coordinating) ∷
    both (codes "lastDirtyTimestamp") (digits_text r.last_dirty) ∷
    both (codes "lastUpdatedTimestamp") (digits_text r.last_updated) ∷
    full (codes "leaseInfo") (lease_tree r.lease) ∷
    full (codes "metadata") (metadata_tree r.metadata) ∷
    both (codes "overriddenStatus") (string (status_name r.overridden_status)) ∷
    both (codes "port") (port_tree r.port) ∷
    both (codes "securePort") (port_tree r.secure_port) ∷
    both (codes "secureVipAddress") (string r.secure_vip_address) ∷
    both (codes "status") (string (status_name r.status)) ∷
    full (codes "statusPageUrl") (string r.status_page_url) ∷
    both (codes "vipAddress") (string r.vip_address) ∷ []))

-- ---- applications and documents

-- one more instance, in the application of its name where that comes next
abbrev pub with_first : Entry → List (List ℕ × List Entry) → List (List ℕ × List Entry)
with_first e [] = (e.0.key.app, e ∷ []) ∷ []
with_first e (g ∷ gs) = if bytes_eq g.0 e.0.key.app then (g.0, e ∷ g.1) ∷ gs else (e.0.key.app, e ∷ []) ∷ g ∷ gs

-- neighbours of one app together, under its name
abbrev pub by_app : List Entry → List (List ℕ × List Entry)
by_app [] = []
by_app (e ∷ es) = with_first e (by_app es)

abbrev pub app_tree : Form → List ℕ × List Entry → Data
app_tree f g = tree ((codes "instance", array (items_of (map (instance_tree f) g.1))) ∷ (codes "name", string g.0) ∷ [])

-- a document of many apps
unfoldable pub document_tree : Form → List Entry → List ℕ → ℕ → Data
document_tree f es hash version = tree ((
  codes "applications",
  tree (
      (codes "application", array (items_of (map (app_tree f) (by_app es)))) ∷
      (codes "apps__hashcode", string hash) ∷
      (codes "versions__delta", digits_text version) ∷ []),
) ∷ [])

-- the document of one app
unfoldable pub app_document : Form → List ℕ → List Entry → Data
app_document f name es = tree ((codes "application", app_tree f (name, es)) ∷ [])

-- the document of one instance
unfoldable pub instance_document : Form → List Entry → Data
instance_document f [] = tree []
instance_document f (e ∷ es) = tree ((codes "instance", instance_tree f e) ∷ [])

-- the document of these instances, with this hash code where it is of many apps
abbrev pub tree_of : Form → Selector → List Entry → List ℕ → ℕ → Data
tree_of f (of_app name) es hash version = app_document f name es
tree_of f (of_key k) es hash version = instance_document f es
tree_of f _ es hash version = document_tree f es hash version
