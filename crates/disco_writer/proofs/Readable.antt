-- The compact text of a document's tree reads back as the tree.
use Rattle.std.proofs.Common.{◌≡◌, ℕ, ◌<◌, ◌≤◌, ◌^◌, true, List, [], ◌∷◌, map, codes, decimal, Some, option_map, option_and_then, refl, ap, sym, ◌∙◌, append-nil, arith}
use Rattle.std.specs.List.{AllByRecursion}
use Rattle.json.specs.Json as json
use Rattle.json.specs.Lex.{tokens}
use Rattle.json.specs.Tree as tokens
use Rattle.json.specs.Tree.{HasNumbers, ItemsHaveNumbers, MembersHaveNumbers, json_tokens}
use Rattle.json.proofs.Printed.Decimals.{IsNumber-decimal}
use Rattle.json.proofs.Printed.Tokens.{tokens-print}
use Rattle.json.proofs.Printed.Trees.{ArePrintable-json_tokens, value-json_tokens}
use Rattle.serde_json.specs.Data.{Data, null, boolean, number, string, array, object, Items, no_items, item, Members, no_members, member, put, depth, items_depth, members_depth}
use Rattle.serde_json.specs.Read.{read, of_json, of_items, of_members, max_depth}
use Rattle.serde_json.specs.View.{items_of}
use Rattle.serde_json.specs.Written.{outline, items_outline, members_outline, compact_text}
use Rattle.serde_json.proofs.Numbers.{number_of-decimal}
use Rattle.serde_json.proofs.Texts.{print-outline}
use Rattle.disco_values.specs.Entries.{is_by_name}
use Rattle.disco_instance.specs.Row.{IsWellFormed}
use Rattle.disco_instance.specs.declared.data_center.DataCenter.{DataCenter}
use Rattle.disco_instance.specs.declared.lease.Lease.{Lease}
use Rattle.disco_instance.specs.declared.port.Port.{Port}
use Rattle.disco_values.specs.declared.form.Form.{Form}
use Rattle.disco_values.specs.declared.form.Form.TheVariants.{Full, Compact}
use Rattle.disco_history.specs.Change.{Entry}
use Rattle.disco_writer.specs.Fields.{Fields, center_fields, entry_fields, lease_fields, port_fields}
use Rattle.disco_writer.specs.Groups.{compact_groups, flat, full_groups}
use Rattle.disco_wire.specs.Rows.{AreWellFormed}
use Rattle.disco_wire.specs.Written.{in_order, tree, whole, data_center_tree, metadata_tree, port_tree, lease_tree, instance_tree, app_tree, by_app, document_tree, app_document, instance_document}
use Rattle.disco_writer.proofs.Metadata.{Pairs, put_all, all_put}
use Rattle.disco_wire.proofs.Documents.{AreGroupsWellFormed, fit_by_app}

-- ---- what was written nests as deep as what it was written for

mutual
  outline_depth : (d : Data) → tokens.depth (outline d) ≡ depth d
  outline_depth null = refl
  outline_depth (boolean b) = refl
  outline_depth (number n) = refl
  outline_depth (string s) = refl
  outline_depth (array ds) = omega (arith, outline_items_depth ds)
  outline_depth (object ms) = omega (arith, outline_members_depth ms)

  outline_items_depth : (ds : Items) → tokens.items_depth (items_outline ds) ≡ items_depth ds
  outline_items_depth no_items = refl
  outline_items_depth (item d ds) = omega (arith, outline_depth d, outline_items_depth ds)

  outline_members_depth : (ms : Members) → tokens.members_depth (members_outline ms) ≡ members_depth ms
  outline_members_depth no_members = refl
  outline_members_depth (member k d ms) = omega (arith, outline_depth d, outline_members_depth ms)

-- its numbers are JSON's, and its names stand in order
pub record IsReadable (d : Data) : Type 0 where
  pub numbers : HasNumbers (outline d)
  pub again : of_json (outline d) ≡ Some d

shallow : (d : Data) → depth d ≤ max_depth → tokens.depth (outline d) ≤ max_depth
shallow d low = omega (arith, outline_depth d)

pub text_again : (d : Data) → IsReadable d → depth d ≤ max_depth → read (compact_text d) ≡ Some d
text_again d is low =
    let j = outline d in
    let same = ap tokens (sym (print-outline d)) ∙ tokens-print (json_tokens j) (ArePrintable-json_tokens j is.numbers) ∙ sym (append-nil (json_tokens j)) in
    ap (λ ts. option_and_then of_json (option_and_then (λ p. json.if_last p.0 p.1) (json.value max_depth ts))) same
    ∙ ap (λ o. option_and_then of_json (option_and_then (λ p. json.if_last p.0 p.1) o)) (value-json_tokens j max_depth [] (shallow d low)) ∙ is.again

-- ---- parts

pub whole_again : (n : ℕ) → n < 2 ^ 64 → IsReadable (whole n)
whole_again n small = record { numbers = IsNumber-decimal n small; again = ap (option_map number) (number_of-decimal n small) }

pub string_again : (s : List ℕ) → IsReadable (string s)
string_again s = record { numbers = tt; again = refl }

abbrev put_each : Fields → Members → Members
put_each [] ms = ms
put_each (f ∷ fs) ms = put_each fs (put f.0 f.1 ms)

abbrev AreReadable : Fields → Type 0
AreReadable fs = AllByRecursion (λ f. IsReadable f.1) fs

members_numbers : (fs : Fields) → AreReadable fs → MembersHaveNumbers (members_outline (in_order fs))
members_numbers [] all = tt
members_numbers (f ∷ fs) all = (all.0.numbers, members_numbers fs all.1)

members_again : (fs : Fields) (found : Members) → AreReadable fs → of_members (members_outline (in_order fs)) found ≡ Some (put_each fs found)
members_again [] found all = refl
members_again (f ∷ fs) found all = rw all.0.again (members_again fs (put f.0 f.1 found) all.1)

tree_again : (fs : Fields) → put_each fs no_members ≡ in_order fs → AreReadable fs → IsReadable (tree fs)
tree_again fs sorted all = record { numbers = members_numbers fs all; again = ap (option_map object) (members_again fs no_members all ∙ ap Some sorted) }

abbrev AreItemsReadable : List Data → Type 0
AreItemsReadable ds = AllByRecursion IsReadable ds

items_numbers : (ds : List Data) → AreItemsReadable ds → ItemsHaveNumbers (items_outline (items_of ds))
items_numbers [] all = tt
items_numbers (d ∷ ds) all = (all.0.numbers, items_numbers ds all.1)

items_again : (ds : List Data) → AreItemsReadable ds → of_items (items_outline (items_of ds)) ≡ Some (items_of ds)
items_again [] all = refl
items_again (d ∷ ds) all = rw (all.0.again, items_again ds all.1) refl

array_again : (ds : List Data) → AreItemsReadable ds → IsReadable (array (items_of ds))
array_again ds all = record { numbers = items_numbers ds all; again = ap (option_map array) (items_again ds all) }

-- ---- an instance

strings_again : (es : Pairs) → AreReadable (entry_fields es)
strings_again [] = tt
strings_again (e ∷ es) = (string_again e.1, strings_again es)

put_fields : (es : Pairs) (ms : Members) → put_each (entry_fields es) ms ≡ put_all es ms
put_fields [] ms = refl
put_fields (e ∷ es) ms = put_fields es (put e.0 (string e.1) ms)

metadata_again : (es : Pairs) → is_by_name es ≡ true → IsReadable (metadata_tree es)
metadata_again es sorted = tree_again (entry_fields es) (put_fields es no_members ∙ all_put es sorted) (strings_again es)

port_again : (p : Port) → p.number < 2 ^ 16 → IsReadable (port_tree p)
port_again p small = tree_again (port_fields p) refl (whole_again p.number (omega arith), (string_again _, (tt)))

lease_tree_again : (l : Lease) → l.duration_secs < 2 ^ 31 → l.renewal_interval_secs < 2 ^ 31 → l.eviction < 2 ^ 64 → l.last_renewal < 2 ^ 64 → l.registration < 2 ^ 64 → l.service_up < 2 ^ 64
    → IsReadable (lease_tree l)
lease_tree_again l a b c d e f =
    tree_again (lease_fields l) refl (whole_again l.duration_secs (omega arith), (whole_again l.eviction c, (whole_again l.last_renewal d, (whole_again l.registration e, (whole_again l.renewal_interval_secs (omega arith), (whole_again l.service_up f, (tt)))))))

center_again : (c : DataCenter) → IsReadable (data_center_tree c)
center_again c = tree_again (center_fields c) refl (string_again _, (string_again _, tt))

pub instance_again : (f : Form) (e : Entry) → IsWellFormed e.0 → IsReadable (instance_tree f e)
unfolding instance_tree
instance_again Full e is =
    let r = e.0 in
    tree_again (flat (full_groups r (Some e.1))) refl (string_again _, (string_again _, (whole_again r.country_id (omega (arith, is.country)), (center_again r.data_center, (string_again _, (string_again _, (string_again _, (string_again _, (string_again _, (string_again _, (string_again _, (string_again _, (lease_tree_again r.lease is.duration is.renewal_interval is.eviction is.last_renewal is.registration is.service_up, (metadata_again r.metadata is.metadata, (string_again _, (port_again r.port is.port, (port_again r.secure_port is.secure_port, (string_again _, (string_again _, (string_again _, (string_again _, tt)))))))))))))))))))))
instance_again Compact e is =
    let r = e.0 in
    tree_again (flat (compact_groups r (Some e.1))) refl (string_again _, (string_again _, (center_again r.data_center, (string_again _, (string_again _, (string_again _, (string_again _, (string_again _, (string_again _, (port_again r.port is.port, (port_again r.secure_port is.secure_port, (string_again _, (string_again _, (string_again _, tt))))))))))))))

instances_again : (f : Form) (es : List Entry) → AreWellFormed es → AreItemsReadable (map (instance_tree f) es)
instances_again f [] all = tt
instances_again f (e ∷ es) all = (instance_again f e all.0, instances_again f es all.1)

app_again : (f : Form) (g : List ℕ × List Entry) → AreWellFormed g.1 → IsReadable (app_tree f g)
app_again f g all = tree_again ((codes "instance", array (items_of (map (instance_tree f) g.1))) ∷ (codes "name", string g.0) ∷ []) refl (array_again (map (instance_tree f) g.1) (instances_again f g.1 all), (string_again g.0, tt))

apps_again : (f : Form) (gs : List (List ℕ × List Entry)) → AreGroupsWellFormed gs → AreItemsReadable (map (app_tree f) gs)
apps_again f [] all = tt
apps_again f (g ∷ gs) all = (app_again f g all.0, apps_again f gs all.1)

pub document_again : (f : Form) (es : List Entry) (hash : List ℕ) (version : ℕ) → AreWellFormed es → IsReadable (document_tree f es hash version)
unfolding document_tree
document_again f es hash version all =
    let fields : Fields = (codes "application", array (items_of (map (app_tree f) (by_app es)))) ∷ (codes "apps__hashcode", string hash) ∷ (codes "versions__delta", string (decimal version)) ∷ [] in
    tree_again ((codes "applications", tree fields) ∷ []) refl (tree_again fields refl (array_again (map (app_tree f) (by_app es)) (apps_again f (by_app es) (fit_by_app es all)), (string_again _, (string_again _, tt))), tt)

pub app_document_again : (f : Form) (name : List ℕ) (es : List Entry) → AreWellFormed es → IsReadable (app_document f name es)
unfolding app_document
app_document_again f name es all = tree_again ((codes "application", app_tree f (name, es)) ∷ []) refl (app_again f (name, es) all, tt)

pub instance_document_again : (f : Form) (e : Entry) → IsWellFormed e.0 → IsReadable (instance_document f (e ∷ []))
unfolding instance_document
instance_document_again f e is = tree_again ((codes "instance", instance_tree f e) ∷ []) refl (instance_again f e is, tt)
