use Rattle.std.proofs.Common.{◌≡◌, Option, Vec, Global, ℕ, option_map, subst, ap, ◌∙◌, arith}
use Rattle.disco_queue.specs.Queue.{version}
use Rattle.disco_wire.specs.Documents.{IsWritten}
use Rattle.disco_cache.specs.Payloads.{IsTruePayload}
use Rattle.disco_core.specs.Past.{history}
use Rattle.disco_core.specs.State.{CoreState}
use Rattle.disco_core.proofs.Loads.{delta_true, made}
use Rattle.disco_core.proofs.state.Core.delta_document.Goals as goal

pub returns-in_ok-payload-in-Some-clause-true_now : goal.returns-in_ok-payload-in-Some-clause-true_now
returns-in_ok-payload-in-Some-clause-true_now c = λ p stands.
    let s = c.args.self.now in
    let follows = subst (λ (s : CoreState). version s.queue ≡ s.registry.version) c.self.view_is c.self.invariant.follows in
    subst (λ r. IsTruePayload r c.in_ok-payload-in-Some.field-0.value (history p)) stands.run (delta_true c.args.key.now s.run s.queue.base s.registry.version c.in-Some.text.items c.in_ok-payload-in-Some.field-0.value (history p) c.requires
    (omega (arith, follows)) stands.registry.version
    (subst (λ (o : Option (Vec ℕ Global)). IsWritten c.args.key.now.form c.args.key.now.query (history p) s.queue.base (option_map (λ v. v.items) o)) c.in-Some.is (c.in_ok-text.ensures.delta c.requires p stands))
    (c.in_ok-payload-in-Some.ensures.payload ∙ ap (λ b. made c.args.key.now s.run b s.registry.version c.in-Some.text.items) (c.base.ensures ∙ ap (λ (s : CoreState). s.queue.base) c.self.view_is)))
