-- A written document means the instances in their order.
use Rattle.std.proofs.Common.{◌≡◌, ℕ, Bool, true, false, cond, List, [], ◌∷◌, ◌++◌, map, Option, Some, None, refl, ap, sym, ◌∙◌}
use Rattle.std.specs.List.{AllByRecursion}
use Rattle.std.specs.Str.{bytes_eq}
use Rattle.serde_json.specs.Data.{Data}
use Rattle.serde_json.specs.View.{items_of}
use Rattle.disco_wire.specs.Meaning.{told_in, all_told, meaning_of, meant, list_of}
use Rattle.disco_wire.specs.Steps.{told_item}
use Rattle.disco_wire.specs.declared.wire.Shape.TheVariants.{App, One}
use Rattle.disco_values.specs.declared.form.Form.{Form}
use Rattle.disco_values.specs.declared.form.Form.TheVariants.{Full, Compact}
use Rattle.disco_history.specs.Change.{Entry}
use Rattle.disco_history.specs.Forms.{mention_in}
use Rattle.disco_instance.specs.Row.{IsWellFormed}
use Rattle.disco_wire.specs.Written.{instance_tree, app_tree, document_tree, by_app, with_first, app_document, instance_document}
use Rattle.disco_history.specs.Mentions.{mention_of}
use Rattle.disco_wire.specs.Laws.{DocumentLaw}
use Rattle.disco_wire.specs.Rows.{AreWellFormed, mentions_in}
use Rattle.disco_wire.proofs.Again.{}
use Rattle.disco_values.proofs.Parsed.{digits_again}
use Rattle.disco_wire.proofs.Back.{instance_law}

abbrev pub AreGroupsWellFormed : List (List ℕ × List Entry) → Type 0
AreGroupsWellFormed gs = AllByRecursion (λ g. AreWellFormed g.1) gs

abbrev flat : List (List ℕ × List Entry) → List Entry
flat [] = []
flat (g ∷ gs) = g.1 ++ flat gs

-- ---- grouping

flat_put : (e : Entry) (g : List ℕ × List Entry) (gs : List (List ℕ × List Entry)) (b : Bool) → flat (cond b ((g.0, e ∷ g.1) ∷ gs) ((e.0.key.app, e ∷ []) ∷ g ∷ gs)) ≡ e ∷ flat (g ∷ gs)
flat_put e g gs true = refl
flat_put e g gs false = refl

flat_first : (e : Entry) (gs : List (List ℕ × List Entry)) → flat (with_first e gs) ≡ e ∷ flat gs
flat_first e [] = refl
flat_first e (g ∷ gs) = flat_put e g gs (bytes_eq g.0 e.0.key.app)

pub flat_by_app : (es : List Entry) → flat (by_app es) ≡ es
flat_by_app [] = refl
flat_by_app (e ∷ es) = flat_first e (by_app es) ∙ ap (λ r. e ∷ r) (flat_by_app es)

fit_put : (e : Entry) (g : List ℕ × List Entry) (gs : List (List ℕ × List Entry)) (b : Bool) → IsWellFormed e.0 → AreGroupsWellFormed (g ∷ gs) → AreGroupsWellFormed (cond b ((g.0, e ∷ g.1) ∷ gs) ((e.0.key.app, e ∷ []) ∷ g ∷ gs))
fit_put e g gs true is all = ((is, all.0), all.1)
fit_put e g gs false is all = ((is, tt), all)

fit_first : (e : Entry) (gs : List (List ℕ × List Entry)) → IsWellFormed e.0 → AreGroupsWellFormed gs → AreGroupsWellFormed (with_first e gs)
fit_first e [] is all = ((is, tt), tt)
fit_first e (g ∷ gs) is all = fit_put e g gs (bytes_eq g.0 e.0.key.app) is all

pub fit_by_app : (es : List Entry) → AreWellFormed es → AreGroupsWellFormed (by_app es)
fit_by_app [] all = tt
fit_by_app (e ∷ es) all = fit_first e (by_app es) all.0 (fit_by_app es all.1)

-- ---- lists

list_of_items : (ds : List Data) → list_of (items_of ds) ≡ ds
list_of_items [] = refl
list_of_items (d ∷ ds) = ap (λ r. d ∷ r) (list_of_items ds)

mentions_append : (f : Form) (xs ys : List Entry) → mentions_in f (xs ++ ys) ≡ mentions_in f xs ++ mentions_in f ys
mentions_append f [] ys = refl
mentions_append f (x ∷ xs) ys = ap (λ r. mention_in f (mention_of x) ∷ r) (mentions_append f xs ys)

instances_told : (f : Form) (app : Option (List ℕ)) (es : List Entry) → AreWellFormed es → all_told (told_in app) (map (instance_tree f) es) ≡ Some (mentions_in f es)
instances_told f app [] all = refl
instances_told f app (e ∷ es) all = rw (instance_law f e app all.0, instances_told f app es all.1) refl

app_told : (f : Form) (g : List ℕ × List Entry) → AreWellFormed g.1 → told_item (app_tree f g) ≡ Some (mentions_in f g.1)
app_told f g all = rw (list_of_items (map (instance_tree f) g.1)) (instances_told f (Some g.0) g.1 all)

apps_told : (f : Form) (gs : List (List ℕ × List Entry)) → AreGroupsWellFormed gs → all_told told_item (map (app_tree f) gs) ≡ Some (mentions_in f (flat gs))
apps_told f [] all = refl
apps_told f (g ∷ gs) all = rw (app_told f g all.0, apps_told f gs all.1) (ap Some (sym (mentions_append f g.1 (flat gs))))

pub document_law : DocumentLaw
unfolding meaning_of document_tree
document_law f es hash version all small =
    let apps = apps_told f (by_app es) (fit_by_app es all) in
    rw (list_of_items (map (app_tree f) (by_app es)), apps, flat_by_app es, digits_again version small) refl

pub app_law : (f : Form) (name : List ℕ) (es : List Entry) → AreWellFormed es → meaning_of (app_document f name es) ≡ Some (meant App None None (mentions_in f es))
unfolding meaning_of app_document
app_law f name es all = rw (list_of_items (map (instance_tree f) es), instances_told f (Some name) es all) refl

pub one_law : (f : Form) (e : Entry) → IsWellFormed e.0 → meaning_of (instance_document f (e ∷ [])) ≡ Some (meant One None None (mentions_in f (e ∷ [])))
unfolding meaning_of instance_document instance_tree
one_law Full e is = rw (instance_law Full e None is) refl
one_law Compact e is = rw (instance_law Compact e None is) refl
