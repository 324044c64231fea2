-- Documents that mean what they have to make a copy the version that they name.
use Rattle.std.proofs.Common.{◌≡◌, ℕ, ◌≤◌, true, List, map, length, Option, Some, None, Ok, refl, sym, ap, subst, ◌∙◌, arith}
use Rattle.std.proofs.lemmas.List.{take-take, length-take}
use Rattle.std.specs.FinMap.{values}
use Rattle.disco_values.specs.declared.cert.Cert.{Cert}
use Rattle.disco_values.specs.declared.form.Form.{Form}
use Rattle.disco_history.specs.Change.{prefix}
use Rattle.disco_history.specs.Forms.{in_form}
use Rattle.disco_history.specs.Mentions.{copied, delta, mention_of, overlay}
use Rattle.disco_history.specs.Query.{all}
use Rattle.disco_history.specs.Registry.{registry_of}
use Rattle.disco_history.proofs.FormLemmas.{copied_formed, overlay_formed}
use Rattle.disco_history.proofs.Overlays.{copy_law, overlay_law}
use Rattle.disco_history.proofs.Restrictions.{values-said_all}
use Rattle.disco_wire.specs.Documents.{document_of, mentioned}
use Rattle.disco_wire.specs.Meaning.{Meaning}
use Rattle.disco_wire.specs.Rows.{mentions_in}
use Rattle.disco_values.specs.declared.query.Query.TheVariants as query
use Rattle.disco_client.specs.Tracks.{Histories, IsVersionIn, known_at, moved}
use Rattle.disco_client.specs.declared.known.Known.{Known}
use Rattle.disco_client.proofs.KnownVersions.{Moves, Reaches, moves}
use Rattle.disco_reconcile.specs.State.{CopyRows}
use Rattle.disco_reconcile.specs.Tracked.{MeansAt, Means, known_by}

meant_once : (body : List ℕ) (m n : Meaning) → document_of body ≡ Ok m → document_of body ≡ Ok n → m ≡ n
meant_once body m n a b = cc

-- one of all apps makes the version that it names
pub full_means : (hs : Histories) (f : Form) (c : Cert) (body : List ℕ) (m : Meaning) → MeansAt hs query.Apps f c body → document_of body ≡ Ok m → IsVersionIn (hs c.run) (known_at f c) (copied m.mentions)
full_means hs f c body m t is =
    let g = prefix (hs c.run) c.version in
    let same = meant_once body m _ is t.1.meaning in
    (t.0, ap (λ (n : Meaning). copied n.mentions) same ∙ copied_formed f (map mention_of (mentioned all g)) ∙ ap (λ es. in_form f (copied (map mention_of es))) (values-said_all g) ∙ ap (in_form f) (copy_law g))

-- a delta that reaches a copy of its form makes the version that it names
pub reached_means : (hs : Histories) (f : Form) (c : Cert) (k : Known) (rows : CopyRows) (body : List ℕ) (m : Meaning) → k.form ≡ f → Reaches c k → IsVersionIn (hs k.run) k rows → MeansAt hs query.Delta f c body → document_of body ≡ Ok m → IsVersionIn (hs c.run) (known_at f c) (overlay rows m.mentions)
reached_means hs f c k rows body m form to is t means =
    let h = hs c.run in
    let g = prefix h c.version in
    let es = values (delta g c.base) in
    let same = meant_once body m _ means t.1.meaning in
    let there : rows ≡ in_form f (registry_of (prefix g k.version)) =
    is.1 ∙ ap (λ f. in_form f (registry_of (prefix (hs k.run) k.version))) form ∙ ap (λ r. in_form f (registry_of (prefix (hs r) k.version))) (sym to.run) ∙ ap (λ x. in_form f (registry_of x)) (sym (take-take k.version c.version h to.below)) in
    let long = length-take c.version h in
    let within : k.version ≤ length g = omega (arith, to.below, t.1.now refl) in
    (t.0, ap (λ (n : Meaning). overlay rows n.mentions) same ∙ ap (λ x. overlay x (mentions_in f es)) there ∙ overlay_formed f (registry_of (prefix g k.version)) (map mention_of es) ∙ ap (in_form f) (overlay_law g c.base k.version to.above within))

moved_means : (hs : Histories) (f : Form) (c : Cert) (k : Known) (rows : CopyRows) (body : List ℕ) (m : Meaning) (at : Known) → Moves k f c at → IsVersionIn (hs k.run) k rows → MeansAt hs query.Delta f c body → document_of body ≡ Ok m → IsVersionIn (hs at.run) at (overlay rows m.mentions)
moved_means hs f c k rows body m at to is t means = subst (λ (k : Known). IsVersionIn (hs k.run) k (overlay rows m.mentions)) to.now (reached_means hs f c k rows body m to.form to.reaches is t means)

delta_by : (hs : Histories) (f : Form) (c : Cert) (k : Known) (rows : CopyRows) (body : List ℕ) (m : Meaning) (o : Option Known) → moved (Some k) f c ≡ o → IsVersionIn (hs k.run) k rows → MeansAt hs query.Delta f c body → document_of body ≡ Ok m → Means hs o (Some (overlay rows m.mentions))
delta_by hs f c k rows body m None e is t means = tt
delta_by hs f c k rows body m (Some at) e is t means = moved_means hs f c k rows body m at (moves k f c at e) is t means

-- a plain client's copy after a delta is the version at which it is known then
pub delta_means : (hs : Histories) (f : Form) (c : Cert) (at : Option Known) (rows : CopyRows) (body : List ℕ) (m : Meaning) → Means hs at (Some rows) → MeansAt hs query.Delta f c body → document_of body ≡ Ok m → Means hs (known_by true at f c) (Some (overlay rows m.mentions))
delta_means hs f c None rows body m is t means = tt
delta_means hs f c (Some k) rows body m is t means = delta_by hs f c k rows body m _ refl is t means
