use Rattle.std.proofs.Common.{refl, subst, sym, arith, ap, ◌∙◌}
use Rattle.disco_core.specs.Past.{minute_closed}
use Rattle.disco_core.specs.State.{Rules}
use Rattle.disco_hub.specs.State.{AreServable, HubState, HubStandsFor, rules_of}
use Rattle.disco_hub.proofs.Documents.{moved_on}
use Rattle.disco_hub.proofs.hub.Hub.close_minute.Goals as goal

pub returns : goal.returns
returns c = record {
  kept = λ p stands. c.close_minute.ensures.kept p (subst (λ (s : HubState). HubStandsFor s p) (sym c.self.view_is) stands).core;
  history = λ p stands.
      let was = subst (λ (s : HubState). HubStandsFor s p) (sym c.self.view_is) stands in
      record { core = c.close_minute.ensures.history p was.core; docs = subst (λ b. AreServable b c.self.inside.cache.docs (minute_closed p)) (sym (ap (λ (l : Rules). l.delta) c.close_minute.ensures.rules)) (moved_on c.self.inside.core.delta c.self.inside.cache.docs p (minute_closed p) refl refl (omega arith) was.docs) };
  registry = c.close_minute.ensures.registry ∙ ap (λ (s : HubState). s.core.registry) c.self.view_is;
  docs = ap (λ (s : HubState). s.docs) c.self.view_is;
  rest = record {
    rules = c.close_minute.ensures.rules ∙ ap (λ (s : HubState). rules_of s) c.self.view_is;
    rounds = ap (λ (s : HubState). s.rounds) c.self.view_is;
    room = ap (λ (s : HubState). s.docs.max) c.self.view_is;
  };
}
