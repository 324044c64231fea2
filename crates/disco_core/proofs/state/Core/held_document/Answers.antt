use Rattle.std.proofs.Common.{length, Option, Vec, Global, ℕ, option_map, subst, ap, ◌∙◌}
use Rattle.disco_wire.specs.Documents.{IsWritten}
use Rattle.disco_core.specs.State.{CoreState}
use Rattle.disco_core.proofs.Loads.{held_true, made}
use Rattle.disco_core.proofs.state.Core.held_document.Goals as goal

pub returns-in_ok-payload-in-Some-clause-true_now : goal.returns-in_ok-payload-in-Some-clause-true_now
returns-in_ok-payload-in-Some-clause-true_now c = λ h stands.
    held_true c.args.key.now c.args.self.now.run c.args.self.now.registry.version c.in-Some.text.items c.in_ok-payload-in-Some.field-0.value h c.requires stands.version
    (subst (λ (o : Option (Vec ℕ Global)). IsWritten c.args.key.now.form c.args.key.now.query h (length h) (option_map (λ v. v.items) o)) c.in-Some.is (c.in_ok-text.ensures.written c.requires h stands))
    (c.in_ok-payload-in-Some.ensures.payload ∙ ap (λ b. made c.args.key.now c.args.self.now.run b c.args.self.now.registry.version c.in-Some.text.items) (c.version.ensures.version ∙ ap (λ (s : CoreState). s.registry.version) c.self.view_is))
