use Rattle.std.proofs.Common.{refl, subst, sym, arith, ap, ◌∙◌}
use Rattle.disco_core.specs.Past.{cleaned}
use Rattle.disco_core.specs.State.{Rules}
use Rattle.disco_hub.specs.State.{AreServable, HubState, HubStandsFor, rules_of}
use Rattle.disco_hub.proofs.Documents.{moved_on}
use Rattle.disco_hub.proofs.hub.Hub.clean.Goals as goal

pub returns : goal.returns
returns c =
    let new : HubState = record { core = c.clean.new.self; docs = c.self.inside.cache; rounds = c.self.inside.rounds } in
    record {
      base = c.clean.ensures.base;
      history = λ p stands.
          let was = subst (λ (s : HubState). HubStandsFor s p) (sym c.self.view_is) stands in
          let after = cleaned c.self.inside.core.retention p c.args.now in
          let on : HubStandsFor new after = record { core = c.clean.ensures.history p was.core; docs = subst (λ b. AreServable b c.self.inside.cache.docs after) (sym (ap (λ (l : Rules). l.delta) c.clean.ensures.rules)) (moved_on c.self.inside.core.delta c.self.inside.cache.docs p after refl refl (omega arith) was.docs) } in
          subst (λ (s : HubState). HubStandsFor new (cleaned s.core.retention p c.args.now)) c.self.view_is on;
      registry = c.clean.ensures.registry ∙ ap (λ (s : HubState). s.core.registry) c.self.view_is;
      docs = ap (λ (s : HubState). s.docs) c.self.view_is;
      rest = record {
        rules = c.clean.ensures.rules ∙ ap (λ (s : HubState). rules_of s) c.self.view_is;
        rounds = ap (λ (s : HubState). s.rounds) c.self.view_is;
        room = ap (λ (s : HubState). s.docs.max) c.self.view_is;
      };
    }
