use Rattle.std.proofs.Common.{None, arith, ap, refl, subst, sym}
use Rattle.disco_registry.specs.Op.{renew}
use Rattle.disco_core.specs.Past.{with_done}
use Rattle.disco_core.specs.State.{CoreState}
use Rattle.disco_hub.specs.State.{AreServable, HubState}
use Rattle.disco_hub.specs.Transitions.{Writes}
use Rattle.disco_hub.specs.contracts.hub.Hub.{the_view}
use Rattle.disco_hub.proofs.Documents.{moved_on}
use Rattle.disco_hub.proofs.hub.Hub.renew.Goals as goal

pub returns-clause-done : goal.returns-clause-done
returns-clause-done c =
    let i = c.self.inside in
    let new : HubState = record { core = c.renew.new.self; docs = i.cache; rounds = i.rounds } in
    let on : Writes (the_view i) new (renew c.args.key.now) c.args.now None = record {
      accepted = c.in_default.ensures.accepted;
      docs = λ _ _. refl;
      history = λ p stands.
          let then = with_done i.core.queue.max p c.args.now (renew c.args.key.now) None in
          record {
            core = c.in_default.ensures.history p stands.core;
            docs = subst (λ (b : _). AreServable b i.cache.docs then) (sym (ap (λ (s : CoreState). s.delta) c.in_default.ensures.rest)) (moved_on i.core.delta i.cache.docs p then refl refl (omega arith) stands.docs);
          };
    } in
    subst (λ (s : HubState). Writes s new (renew c.args.key.now) c.args.now None) c.self.view_is on
