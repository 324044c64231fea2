use Rattle.std.proofs.Common.{sym, subst, ◌∙◌}
use Rattle.disco_writer.specs.Kept.{HasNoEmpty, StoredTexts}
use Rattle.disco_writer.proofs.Steps.{next_opened}
use Rattle.disco_writer.proofs.texts.Texts.ready.Goals as goal

pub invariant_of-self-2 : goal.invariant_of-self-2
invariant_of-self-2 c = λ q is.
    let none = subst (λ (v : StoredTexts). HasNoEmpty v.places) (sym c.self.view_is) c.forget.ensures.none_empty in
    next_opened c.args.key.now c.args.text.items c.self.inside.places c.make.new.places none c.make.ensures.opens q is ∙ sym c.in_ok-kept.ensures.cases
