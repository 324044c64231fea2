use Rattle.std.proofs.Common.{sym, subst, ap, ◌∙◌}
use Rattle.std.specs.FinMap.{get}
use Rattle.disco_core.specs.State.{IsFor, Rules}
use Rattle.disco_core.specs.Past.{history, with_done}
use Rattle.disco_history.specs.Held.{record_at}
use Rattle.disco_history.specs.Registry.{registry_of}
use Rattle.disco_registry.specs.Commit.{done_by}
use Rattle.disco_hub.specs.Kept.{Forgets}
use Rattle.disco_hub.specs.State.{AreServable, HubState, HubStandsFor, rules_of}
use Rattle.disco_hub.proofs.Documents.{docs_after, forgets_in}
use Rattle.disco_hub.proofs.Rests.{room_kept}
use Rattle.disco_hub.proofs.hub.Hub.commit.Goals as goal

pub returns-clause-docs : goal.returns-clause-docs
returns-clause-docs c = λ p stands.
    let i = c.self.inside in
    let was = subst (λ (s : HubState). HubStandsFor s p) (sym c.self.view_is) stands in
    subst (λ (s : HubState). Forgets (get (registry_of (history p))) c.args.ready.change s.docs c.forget.new.cache) c.self.view_is
    (forgets_in i.core.registry (history p) was.core.registry c.args.ready.change i.cache c.forget.new.cache c.forget.ensures)

pub returns-clause-history : goal.returns-clause-history
returns-clause-history c = λ p ask is stands.
    let r = c.args.ready in
    let i = c.self.inside in
    let was = subst (λ (s : HubState). HubStandsFor s p) (sym c.self.view_is) stands in
    let most = i.core.queue.max in
    let new : HubState = record { core = c.commit.new.self; docs = c.forget.new.cache; rounds = i.rounds } in
    let forgets = forgets_in i.core.registry (history p) was.core.registry r.change i.cache c.forget.new.cache c.forget.ensures in
    let docs = subst (λ o. AreServable i.core.delta c.forget.new.cache.docs (with_done most p r.moment ask o)) (sym c.commit.ensures.change) (docs_after i.core.delta p most r.moment ask r.change i.cache c.forget.new.cache forgets was.docs) in
    let on : HubStandsFor new (with_done most p r.moment ask (done_by c.commit.result)) = record {
      core = c.commit.ensures.history p ask (subst (λ (s : HubState). IsFor s.core r ask) (sym c.self.view_is) is) was.core;
      docs = subst (λ b. AreServable b c.forget.new.cache.docs (with_done most p r.moment ask (done_by c.commit.result))) (sym (ap (λ (l : Rules). l.delta) c.commit.ensures.rules)) docs;
    } in
    subst (λ (s : HubState). HubStandsFor new (with_done s.core.queue.max p r.moment ask (done_by c.commit.result))) c.self.view_is on

pub returns-clause-rest : goal.returns-clause-rest
returns-clause-rest c = record {
  rules = c.commit.ensures.rules ∙ ap (λ (s : HubState). rules_of s) c.self.view_is;
  rounds = ap (λ (s : HubState). s.rounds) c.self.view_is;
  room = room_kept (record_at c.self.inside.core.registry.held) c.args.ready.change c.self.inside.cache c.forget.new.cache c.forget.ensures ∙ ap (λ (s : HubState). s.docs.max) c.self.view_is;
}
