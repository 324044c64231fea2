use Rattle.std.proofs.Common.{sym, subst}
use Rattle.disco_writer.specs.Kept.{AreKept, StoredTexts}
use Rattle.disco_core.proofs.KeptTexts.{in_form_are}
use Rattle.disco_core.proofs.state.Core.text_of.Goals as goal

pub write_document-requires-clause-kept : goal.write_document-requires-clause-kept
write_document-requires-clause-kept c =
    subst (λ (v : StoredTexts). AreKept c.args.key.now.form v c.self.inside.registry.held) (sym c.in_form.ensures) (in_form_are c.args.key.now.form c.self.inside.texts c.self.inside.registry.held c.self.invariant.written)
