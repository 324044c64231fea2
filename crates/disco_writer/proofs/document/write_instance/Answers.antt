use Rattle.std.proofs.Common.{List, Some, [], ◌∷◌, length, refl, ap, sym, ◌≡◌, ◌∙◌, arith}
use Rattle.std.specs.FinMap.{FinMap, get}
use Rattle.disco_values.specs.Key.{key_cmp}
use Rattle.disco_values.specs.declared.key.Key.{Key}
use Rattle.disco_history.specs.Change.{Entry, key_of}
use Rattle.disco_history.specs.Query.{of_key}
use Rattle.disco_history.proofs.Restrictions.{listed, values-said_key}
use Rattle.disco_history.specs.Held.{entry_of}
use Rattle.disco_wire.specs.Documents.{mentioned}
use Rattle.disco_values.specs.declared.query.Query.TheVariants as query
use Rattle.disco_writer.proofs.Told.{one_agrees}
use Rattle.disco_writer.proofs.Written.{none_written, some_there, some_written}
use Rattle.disco_writer.proofs.document.write_instance.Goals as goal

pub returns-in_ok-one_text-in-Some-clause-written : goal.returns-in_ok-one_text-in-Some-clause-written
returns-in_ok-one_text-in-Some-clause-written c = λ h stands.
    let key = c.args.key.now in
    let es : List Entry = entry_of c.in-Some.held.now ∷ [] in
    let same : es ≡ mentioned (of_key key) h = ap listed (c.in-Some.ensures.found ∙ ap (λ (m : FinMap key_cmp Entry). get m key) stands.held) ∙ sym (values-said_key h key) in
    let there : get c.args.registry.now.held (key_of (entry_of c.in-Some.held.now)) ≡ Some (entry_of c.in-Some.held.now) =
    ap (λ (k : Key). get c.args.registry.now.held k) c.in-Some.ensures.same_key ∙ sym c.in-Some.ensures.found in
    let agree = one_agrees c.args.form c.args.texts.now c.args.registry.now.held (entry_of c.in-Some.held.now) c.requires there in
    some_written c.args.form (query.Instance key) h (length h) es _ (length h) _ same refl refl (some_there (of_key key) h es same (omega arith)) (c.in_ok-one_text-in-Some.ensures.text agree) (c.in_ok-one_text-in-Some.ensures.means agree)

pub returns-in-None-clause-written : goal.returns-in-None-clause-written
returns-in-None-clause-written c = λ h stands.
    let key = c.args.key.now in
    let same : [] ≡ mentioned (of_key key) h = ap listed (c.in-None.ensures.found ∙ ap (λ (m : FinMap key_cmp Entry). get m key) stands.held) ∙ sym (values-said_key h key) in
    none_written (of_key key) h [] same refl refl
