use Rattle.std.proofs.Common.{ap, sym, subst, ◌∙◌}
use Rattle.disco_instance.specs.declared.record.Record.{Record}
use Rattle.disco_writer.specs.Kept.{HasNoEmpty, StoredTexts}
use Rattle.disco_writer.proofs.Steps.{next_opened}
use Rattle.disco_writer.proofs.texts.Texts.ready_for.Goals as goal

pub invariant_of-self-2 : goal.invariant_of-self-2
invariant_of-self-2 c = λ q is.
    let none = subst (λ (v : StoredTexts). HasNoEmpty v.places) (sym c.self.view_is) c.forget.ensures.none_empty in
    let key = c.deref.result.now.key in
    next_opened key c.args.text.items c.self.inside.places c.make_unless.new.places none c.make_unless.ensures.opens q is
    ∙ ap (λ (r : Record). r.key) (c.deref.ensures ∙ sym c.in_ok-shared.ensures)
