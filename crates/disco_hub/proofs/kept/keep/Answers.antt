use Rattle.std.proofs.Common.{ap, sym, subst, true, ◌∙◌, ◌≡◌}
use Rattle.std.specs.FinMap.{get}
use Rattle.disco_cache.specs.declared.payload.Payload.{Payload}
use Rattle.disco_hub.specs.Kept.{KeepsAtMost}
use Rattle.disco_hub.specs.State.{is_cached}
use Rattle.disco_hub.proofs.Documents.{cached_on, kept_at_most}
use Rattle.disco_hub.proofs.kept.keep.Goals as goal

pub returns-in-Ok : goal.returns-in-Ok
returns-in-Ok c = record {
  kept = λ on deltas.
      let d = c.args.doc.now.value in
      let old = c.args.cache.now in
      let new = c.put.new.self in
      let shared = c.in-Ok.shared.value in
      let same : shared ≡ d = c.in-Ok.ensures in
      let kept : is_cached true d.key.query ≡ true = sym (c.if-not-keeps.ensures ∙ ap (λ (v : Payload). is_cached true v.key.query) c.deref.ensures) in
      let cached = cached_on on d.key.query kept deltas in
      subst (λ (v : Payload). KeepsAtMost on v old new) same
      (kept_at_most on shared old new c.put.result (ap (λ (v : Payload). is_cached on v.key.query) same ∙ cached) (ap (λ (v : Payload). get old.docs v.key) same ∙ c.requires) c.put.ensures.room c.put.ensures.docs c.put.ensures.max c.put.ensures.err);
}
