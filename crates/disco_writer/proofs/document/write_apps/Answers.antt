use Rattle.std.proofs.Common.{length, ◌≡◌, List, ap, sym, subst, ◌∙◌}
use Rattle.std.specs.FinMap.{FinMap, values}
use Rattle.disco_values.specs.Key.{key_cmp}
use Rattle.disco_history.specs.Change.{Entry}
use Rattle.disco_history.specs.Hash.{hash}
use Rattle.disco_history.specs.Query.{all}
use Rattle.disco_history.proofs.Restrictions.{values-said_all}
use Rattle.disco_index.specs.Tally.{rows_of}
use Rattle.disco_wire.specs.Documents.{mentioned}
use Rattle.disco_wire.specs.Rows.{rows_in}
use Rattle.disco_values.specs.declared.query.Query.TheVariants as query
use Rattle.disco_writer.specs.Joined.{AreTextsOf, Shown, shown_by}
use Rattle.disco_writer.proofs.Walk.{walked_are}
use Rattle.disco_writer.proofs.Written.{all_there, code_is, some_written}
use Rattle.disco_writer.proofs.document.write_apps.Goals as goal

pub returns-clause-written : goal.returns-clause-written
returns-clause-written c = λ h stands.
    let es = values c.args.registry.now.held in
    let version = c.version.result in
    let same : es ≡ mentioned all h = ap (λ (m : FinMap key_cmp Entry). values m) stands.held ∙ sym (values-said_all h) in
    let are = subst (λ (ps : List Shown). AreTextsOf c.args.form ps es) (sym (ap shown_by c.as_slice.ensures.value ∙ c.in_ok-pieces.ensures)) (walked_are c.args.form c.args.texts.now h c.args.registry.now.held stands.held c.requires.kept) in
    let code : c.in_ok-hash.hash ≡ hash (rows_in es) = c.in_ok-hash.ensures.text (rows_of c.args.registry.now.held) c.requires.counts in
    some_written c.args.form query.Apps h (length h) es c.in_ok-hash.hash version c.in_ok-join_many.field-0.items same (code ∙ code_is all h es same) (c.version.ensures.version ∙ stands.version) (all_there h)
    (c.in_ok-join_many.ensures.text c.args.form es are) (c.in_ok-join_many.ensures.means c.args.form es are)
