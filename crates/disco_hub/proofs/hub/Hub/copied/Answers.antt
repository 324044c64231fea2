use Rattle.std.proofs.Common.{◌∙◌, ap, sym, subst}
use Rattle.disco_cache.specs.declared.payload.Payload.{Payload}
use Rattle.disco_hub.specs.Kept.{IsAsKept}
use Rattle.disco_hub.specs.State.{MayServe, HubState, HubStandsFor, version_of}
use Rattle.disco_hub.proofs.Documents.{is_as_kept}
use Rattle.disco_hub.proofs.hub.Hub.copied.Goals as goal

pub returns-in-Some-clause-copied : goal.returns-in-Some-clause-copied
returns-in-Some-clause-copied c = λ p stands.
    let was = subst (λ (s : HubState). HubStandsFor s p) (sym c.self.view_is) stands in (
      ap (λ (d : Payload). d.key) c.in_ok-try_clone.ensures ∙ c.in-Some.ensures.same_key,
      subst (λ (v : Payload). MayServe v p) (sym c.in_ok-try_clone.ensures) (was.docs.served c.args.key.now c.in-Some.doc.now.value (sym c.in-Some.ensures.found)),
    )

pub returns-in-Some-clause-as_kept : goal.returns-in-Some-clause-as_kept
returns-in-Some-clause-as_kept c =
    let i = c.self.inside in
    let d = c.in_ok-try_clone.field-0.value in
    subst (λ (s : HubState). IsAsKept (version_of s) s.core.queue.base s.docs c.args.key.now d) c.self.view_is
    (is_as_kept i.core.registry.version i.core.queue.base i.cache c.args.key.now d c.in-Some.doc.now.value (sym c.in-Some.ensures.found) c.in_ok-try_clone.ensures)
