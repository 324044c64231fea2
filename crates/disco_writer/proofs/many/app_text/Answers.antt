use Rattle.std.proofs.Common.{List, subst, sym, ap, ◌∙◌}
use Rattle.disco_wire.specs.Rows.{held_entries}
use Rattle.disco_writer.specs.Joined.{AreTextsOf, Shown, shown_by}
use Rattle.disco_writer.proofs.Told.{told_are}
use Rattle.disco_writer.proofs.many.app_text.Goals as goal

pub returns-clause-text : goal.returns-clause-text
returns-clause-text c = λ agree.
    let es = held_entries c.args.held.now in
    c.in_ok-join_app.ensures.text c.args.form es (subst (λ (ps : List Shown). AreTextsOf c.args.form ps es) (sym (ap shown_by c.as_slice.ensures.value ∙ c.in_ok-pieces.ensures.pieces)) (told_are c.args.form c.args.texts.now es c.in_ok-pieces.ensures.told agree))

pub returns-clause-means : goal.returns-clause-means
returns-clause-means c = λ agree.
    let es = held_entries c.args.held.now in
    c.in_ok-join_app.ensures.means c.args.form es (subst (λ (ps : List Shown). AreTextsOf c.args.form ps es) (sym (ap shown_by c.as_slice.ensures.value ∙ c.in_ok-pieces.ensures.pieces)) (told_are c.args.form c.args.texts.now es c.in_ok-pieces.ensures.told agree))
