-- Looks into an edition.
use Rattle.std.proofs.Common.{◌≡◌, List, [], refl, sym, ap, subst, ◌∙◌}
use Rattle.std.specs.FinMap.{empty, get}
use Rattle.disco_values.specs.declared.doc_key.DocKey.{DocKey}
use Rattle.disco_hub.specs.Press.{Edition, IsLegal, Note}
use Rattle.disco_hub.proofs.Pressed.{first_pressed}
use Rattle.disco_hub.proofs.Shown.{shown_stands, true_there}
use Rattle.disco_press.specs.Editions.{IsEditionOf}
use Rattle.disco_press.specs.Looks.{Finds, Shows}
use Rattle.disco_press.specs.Logs.{notes_in}
use Rattle.disco_press.specs.declared.look.Looked.{Looked}
use Rattle.disco_press.specs.declared.look.Looked.TheVariants.{Doc, Miss, Shut}

pub new_edition : (ps : List (List Note)) (docs : Edition) → ps ≡ [] → docs ≡ empty → IsEditionOf ps docs
new_edition ps docs none fresh =
    subst (λ (t : List (List Note) × Edition). IsEditionOf t.0 t.1) (λ i. (sym none i, sym fresh i)) (record { docs_are = refl; run = 0; legal = (first_pressed 0).legal; publishable = refl })

pub shows : (key : DocKey) (ps : List (List Note)) (docs : Edition) (looked : Looked) → IsEditionOf ps docs → Finds (get docs key) looked → Shows (notes_in ps) key looked
shows key ps docs Shut is finds = tt
shows key ps docs Miss is finds = (is.run, is.legal, is.publishable, ap (λ (m : Edition). get m key) (sym is.docs_are) ∙ finds)
shows key ps docs (Doc d) is finds =
    let there = ap (λ (m : Edition). get m key) (sym is.docs_are) ∙ finds in
    let stands = shown_stands (notes_in ps) key d.value is.publishable there in
    let fits = true_there is.run (notes_in ps) key d.value is.legal stands in
    (subst (λ run. IsLegal run (notes_in ps)) (sym fits.0) is.legal, is.publishable, there, (stands, (refl, fits.1)))
