-- The members of an instance's text in groups, which stand next to each other in both forms or in the full one alone. Nothing here is to be believed.
use Rattle.std.specs.Prelude.{◌≡◌, ℕ, Bool, List, [], ◌∷◌, ◌++◌, codes, flat_map, map, if◌then◌else◌, Option, Some, None}
use Rattle.std.specs.Str.{IsUtf8}
use Rattle.json.specs.Print.{print, print_from, quoted}
use Rattle.json.specs.Token.{Token, key}
use Rattle.json.specs.Tree.{json_tokens, members_tokens}
use Rattle.serde_json.specs.Data.{string}
use Rattle.serde_json.specs.Written.{members_outline, outline}
use Rattle.disco_values.specs.Action.{action_name}
use Rattle.disco_values.specs.declared.action.Action.{Action}
use Rattle.disco_instance.specs.Row.{Row}
use Rattle.disco_wire.specs.Written.{data_center_tree, lease_tree, metadata_tree, truth, whole}
use Rattle.disco_writer.specs.Fields.{Fields, done_fields, host_fields, metadata_members, moment_fields, state_fields}
use Rattle.disco_writer.specs.declared.groups.Group.{Group}
use Rattle.disco_writer.specs.declared.groups.Group.TheVariants as group

-- the members of a group
abbrev pub group_fields : Group → Row → Option Action → Fields
group_fields group.Names r o = done_fields o ++ (codes "app", string r.key.app) ∷ []
group_fields group.Country r o = (codes "countryId", whole r.country_id) ∷ []
group_fields group.Center r o = (codes "dataCenterInfo", data_center_tree r.data_center) ∷ []
group_fields group.Urls r o = (codes "healthCheckUrl", string r.health_check_url) ∷ (codes "homePageUrl", string r.home_page_url) ∷ []
group_fields group.Hosts r o = host_fields r
group_fields group.Coordination r o = (codes "isCoordinatingDiscoveryServer", truth r.is_coordinating) ∷ []
group_fields group.Moments r o = moment_fields r
group_fields group.Terms r o = (codes "leaseInfo", lease_tree r.lease) ∷ (codes "metadata", metadata_tree r.metadata) ∷ []
group_fields group.State r o = state_fields r
group_fields group.StatusPage r o = (codes "statusPageUrl", string r.status_page_url) ∷ []
group_fields group.Vip r o = (codes "vipAddress", string r.vip_address) ∷ []

-- the groups in front of the moments, in the full form
abbrev pub full_front : Row → Option Action → List Fields
full_front r o = map (λ k. group_fields k r o) (group.Names ∷ group.Country ∷ group.Center ∷ group.Urls ∷ group.Hosts ∷ group.Coordination ∷ [])

-- the same in the compact form
abbrev pub compact_front : Row → Option Action → List Fields
compact_front r o = map (λ k. group_fields k r o) (group.Names ∷ group.Center ∷ group.Hosts ∷ [])

-- all groups of the full form
abbrev pub full_groups : Row → Option Action → List Fields
full_groups r o = full_front r o ++ map (λ k. group_fields k r o) (group.Moments ∷ group.Terms ∷ group.State ∷ group.StatusPage ∷ group.Vip ∷ [])

-- all groups of the compact form
abbrev pub compact_groups : Row → Option Action → List Fields
compact_groups r o = compact_front r o ++ map (λ k. group_fields k r o) (group.Moments ∷ group.State ∷ group.Vip ∷ [])

-- the members of groups
abbrev pub flat : List Fields → Fields
flat rs = flat_map (λ fs. fs) rs

-- the tokens of these members
abbrev pub member_tokens : Fields → List Token
member_tokens [] = []
member_tokens (f ∷ fs) = key f.0 ∷ (json_tokens (outline f.1) ++ member_tokens fs)

-- the text of members, with commas between them
unfoldable pub group_text : Fields → List ℕ
group_text fs = print (member_tokens fs)

-- ... behind a comma
abbrev pub behind_comma : Fields → List ℕ
behind_comma fs = 44 ∷ group_text fs

-- ... behind the brace of an object or a comma, as the group stands in the text
abbrev pub group_part : Group → Row → Option Action → List ℕ
group_part group.Names r o = 123 ∷ group_text (group_fields group.Names r o)
group_part k r o = behind_comma (group_fields k r o)

-- the beginning of the text: the action, if one is named, and the name of the app
abbrev pub done_text : Option Action → List ℕ
done_text None = codes "{\"app\":"
done_text (Some a) = codes "{\"actionType\":" ++ quoted (action_name a) ++ codes ",\"app\":"

-- an entry of metadata, behind another one or none
abbrev pub entry_member : Bool → List ℕ → List ℕ → List ℕ
entry_member later name text = (if later then codes "," else []) ++ (quoted name ++ (codes ":" ++ quoted text))

-- entries of metadata and the end of their object, behind other entries or none
abbrev pub entries_text : Bool → List (List ℕ × List ℕ) → List ℕ
entries_text later es = print_from later (members_tokens (members_outline (metadata_members es)))

-- the beginning of an object of these groups
abbrev pub object_front : List Fields → List ℕ
object_front [] = []
object_front (fs ∷ rs) = 123 ∷ (group_text fs ++ flat_map behind_comma rs)

-- a text begins an object of these groups
pub record IsObjectFront (text : List ℕ) (rs : List Fields) : Type 0 where
  pub items : text ≡ object_front rs
  pub utf8 : IsUtf8 text

-- a text in UTF-8 comes behind what was there
pub record AppendsUtf8 (old new text : List ℕ) : Type 0 where
  pub items : new ≡ old ++ text
  pub utf8 : IsUtf8 text
