-- A document nests few levels, so its text can be read back.
use Rattle.std.proofs.Common.{◌≡◌, ℕ, ◌≤◌, List, [], ◌∷◌, map, Some, Ok, refl, sym, ap, subst, ◌∙◌, arith}
use Rattle.std.specs.Str.{IsUtf8}
use Rattle.serde_json.specs.Data.{Data, depth, items_depth, members_depth}
use Rattle.serde_json.specs.Read.{max_depth, read}
use Rattle.serde_json.specs.View.{items_of}
use Rattle.disco_values.specs.declared.form.Form.{Form}
use Rattle.disco_values.specs.declared.form.Form.TheVariants.{Full, Compact}
use Rattle.disco_history.specs.Change.{Entry}
use Rattle.std.specs.Option.{ok_or}
use Rattle.disco_instance.specs.Instance.{if_ok}
use Rattle.disco_values.specs.declared.fault.Fault.TheVariants.{BadDocument}
use Rattle.disco_wire.specs.Documents.{document_of}
use Rattle.disco_wire.specs.Meaning.{Meaning, meaning_of}
use Rattle.disco_wire.proofs.Trees.{tree_read}
use Rattle.disco_writer.specs.Fields.{metadata_members}
use Rattle.disco_wire.specs.Written.{instance_tree, app_tree, by_app, document_tree, app_document, instance_document}

metadata_depth : (es : List (List ℕ × List ℕ)) → members_depth (metadata_members es) ≡ 0
metadata_depth [] = refl
metadata_depth (e ∷ es) = omega (arith, metadata_depth es)

instance_depth : (f : Form) (e : Entry) → depth (instance_tree f e) ≤ 2
unfolding instance_tree
instance_depth Compact e = omega arith
instance_depth Full e = rw (metadata_depth e.0.metadata) (omega arith)

instances_depth : (f : Form) (es : List Entry) → items_depth (items_of (map (instance_tree f) es)) ≤ 2
instances_depth f [] = omega arith
instances_depth f (e ∷ es) = omega (arith, instance_depth f e, instances_depth f es)

apps_depth : (f : Form) (gs : List (List ℕ × List Entry)) → items_depth (items_of (map (app_tree f) gs)) ≤ 4
apps_depth f [] = omega arith
apps_depth f (g ∷ gs) = omega (arith, instances_depth f g.1, apps_depth f gs)

pub document_depth : (f : Form) (es : List Entry) (hash : List ℕ) (version : ℕ) → depth (document_tree f es hash version) ≤ max_depth
unfolding document_tree
document_depth f es hash version = omega (arith, apps_depth f (by_app es))

app_depth : (f : Form) (g : List ℕ × List Entry) → depth (app_tree f g) ≤ 4
app_depth f g = omega (arith, instances_depth f g.1)

pub app_document_depth : (f : Form) (name : List ℕ) (es : List Entry) → depth (app_document f name es) ≤ max_depth
unfolding app_document
app_document_depth f name es = omega (arith, app_depth f (name, es))

pub instance_document_depth : (f : Form) (e : Entry) → depth (instance_document f (e ∷ [])) ≤ max_depth
unfolding instance_document
instance_document_depth f e = omega (arith, instance_depth f e)

-- what is read of a text that reads back as its tree
pub read_again : (d : Data) (m : Meaning) (bytes text : List ℕ) → bytes ≡ text → IsUtf8 text → read text ≡ Some d → meaning_of d ≡ Some m → document_of bytes ≡ Ok m
read_again d m bytes text same utf8 reads is = ap (λ r. if_ok r (λ t. ok_or (meaning_of t) BadDocument)) (tree_read bytes d (subst IsUtf8 (sym same) utf8) (ap read same ∙ reads)) ∙ ap (λ o. ok_or o BadDocument) is
