use Rattle.std.proofs.Common.{◌≡◌, None, true, ap, inl, refl, rules, sym, subst, ◌∙◌}
use Rattle.disco_values.specs.Query.{is_delta}
use Rattle.disco_values.specs.declared.doc_key.DocKey.{DocKey}
use Rattle.disco_cache.specs.declared.payload.Payload.{Payload}
use Rattle.disco_core.specs.Past.{history}
use Rattle.disco_core.specs.Refusals.{refusal_of}
use Rattle.disco_hub.specs.State.{MayServe, HubState, HubStandsFor, version_of}
use Rattle.disco_hub.specs.Transitions.{Loads}
use Rattle.disco_hub.proofs.Documents.{allowed, is_as_kept, is_new, keeps, written_now}
use Rattle.disco_hub.proofs.hub.Hub.load.Goals.{else-is_delta-via-then-is_delta+else-not-serves_deltas, else-is_delta-via-else-is_delta}
use Rattle.disco_hub.proofs.hub.Hub.load.Goals as goal

pub returns-in-Some-clause-served : goal.returns-in-Some-clause-served
returns-in-Some-clause-served c = record {
  key = ap (λ (d : Payload). d.key) c.in_ok-try_clone.ensures ∙ c.in-Some.ensures.same_key;
  served = λ p stands.
      let was = subst (λ (s : HubState). HubStandsFor s p) (sym c.self.view_is) stands in
      subst (λ (v : Payload). MayServe v p) (sym c.in_ok-try_clone.ensures) (was.docs.served c.args.key.now c.in-Some.doc.now.value (sym c.in-Some.ensures.found));
  allowed = λ p stands.
      let was = subst (λ (s : HubState). HubStandsFor s p) (sym c.self.view_is) stands in
      let may = was.docs.served c.args.key.now c.in-Some.doc.now.value (sym c.in-Some.ensures.found) in
      let deltas : is_delta c.args.key.now.query ≡ true → c.self.inside.core.delta ≡ true = elim c.else-is_delta.branch [
        | else-is_delta-via-then-is_delta+else-not-serves_deltas w ↦ λ e. search (rules, w.serves_deltas.ensures, w.if-not-serves_deltas)
        | else-is_delta-via-else-is_delta w ↦ λ e. search (rules, w.if-is_delta, c.is_delta.ensures, e)
      ] in
      subst (λ (s : HubState). refusal_of s.core.delta c.args.key.now.query (history p) ≡ None) c.self.view_is
      (allowed p.run c.self.inside.core.delta c.args.key.now.query (history p) c.in-Some.doc.now.value (ap (λ (k : DocKey). k.query) c.in-Some.ensures.same_key) may.true_now deltas);
}

pub returns-in-Some-clause-loads : goal.returns-in-Some-clause-loads
returns-in-Some-clause-loads c =
    let d = c.in_ok-try_clone.field-0.value in
    let i : HubState = record { core = c.self.inside.core; docs = c.self.inside.cache; rounds = c.self.inside.rounds } in
    let loads : Loads i i c.args.key.now d = record {
      as_kept = is_as_kept i.core.registry.version i.core.queue.base i.docs c.args.key.now d c.in-Some.doc.now.value (sym c.in-Some.ensures.found) c.in_ok-try_clone.ensures;
      keeps = inl refl;
      history = λ p stands. stands;
      rest = refl;
    } in
    subst (λ (s : HubState). Loads s s c.args.key.now d) c.self.view_is loads

pub returns-clause-loads : goal.returns-clause-loads
returns-clause-loads c =
    let i : HubState = record { core = c.self.inside.core; docs = c.self.inside.cache; rounds = c.self.inside.rounds } in
    let new : HubState = record i { docs = c.keep.new.cache } in
    let d = c.in-Some-2.doc.value in
    let true_now = rw c.in-Some-2.is at c.in_ok-doc.ensures.true_now in
    let base = rw c.in-Some-2.is at c.in_ok-doc.ensures.base in
    let version = rw c.in-Some-2.is at c.in_ok-doc.ensures.version in
    let key : d.key ≡ c.args.key.now = rw c.in-Some-2.is at c.in_ok-doc.ensures.key in
    let base_of : is_delta d.key.query ≡ true → d.base ≡ i.core.queue.base = λ of_delta. base (subst (λ (k : DocKey). is_delta k.query ≡ true) key of_delta) in
    let deltas : is_delta c.args.key.now.query ≡ true → i.core.delta ≡ true = elim c.else-is_delta.branch [
      | else-is_delta-via-then-is_delta+else-not-serves_deltas w ↦ λ e. search (rules, w.serves_deltas.ensures, w.if-not-serves_deltas)
      | else-is_delta-via-else-is_delta w ↦ λ e. search (rules, w.if-is_delta, c.is_delta.ensures, e)
    ] in
    let at_most = c.keep.ensures.kept i.core.delta (λ of_delta. deltas (subst (λ (k : DocKey). is_delta k.query ≡ true) key of_delta)) in
    let loads : Loads i new c.args.key.now d = record {
      as_kept = is_new (version_of i) i.core.queue.base i.docs c.args.key.now d (sym c.in_default.ensures.found) version base_of;
      keeps = at_most;
      history = λ p stands.
          let may = written_now i.core p d stands.core (true_now p stands.core) base_of in
          record { core = stands.core; docs = keeps i.core.delta d i.docs new.docs p may stands.docs at_most };
      rest = refl;
    } in
    subst (λ (s : HubState). Loads s new c.args.key.now d) c.self.view_is loads
