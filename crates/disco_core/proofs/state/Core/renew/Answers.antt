use Rattle.std.proofs.Common.{◌≡◌, Err, IfErr, None, Ok, OnOk, refl, subst, sym, true}
use Rattle.disco_registry.specs.Accept.{accepts}
use Rattle.disco_registry.specs.Op.{renew}
use Rattle.disco_core.specs.Past.{with_done}
use Rattle.disco_core.specs.State.{CoreState, CoreStandsFor, IsFor, Prepared}
use Rattle.disco_core.specs.contracts.state.Core.{the_view}
use Rattle.disco_core.proofs.Asks.{stands_on}
use Rattle.disco_core.proofs.Renewals.{on_both}
use Rattle.disco_core.proofs.state.Core.renew.Goals as goal

pub invariant_of-self : goal.invariant_of-self
invariant_of-self c = record {
  counts = c.self.invariant.counts;
  indexed = c.self.invariant.indexed;
  leased = c.renew.ensures.leased;
  written = c.self.invariant.written;
  few = c.self.invariant.few;
  follows = c.self.invariant.follows;
}

pub returns-clause-accepted : goal.returns-clause-accepted
returns-clause-accepted c = subst (λ (s : CoreState). OnOk c.renew.result (accepts s.registry (renew c.args.key.now) c.args.now ≡ Ok None)) c.self.view_is c.renew.ensures.accepted

pub returns-clause-history : goal.returns-clause-history
returns-clause-history c = on_both c.renew.result c.renew.ensures.accepted c.renew.ensures.goes_on (λ accepted goes p stands.
    let old = the_view c.self.inside in
    let new : CoreState = record old { leases = c.renew.new.leases } in
    let ready : Prepared = record { key = c.args.key.now; renewal = true; moment = c.args.now; change = None } in
    let was : CoreStandsFor old p = subst (λ (s : CoreState). CoreStandsFor s p) (sym c.self.view_is) stands in
    let is : IsFor old ready (renew c.args.key.now) = record { accepted = accepted; key = refl; renewal = refl } in
    let on = stands_on old new ready p (renew c.args.key.now) None refl is was was.registry was.queue refl c.renew.ensures.leased goes in
    subst (λ (s : CoreState). CoreStandsFor new (with_done s.queue.max p c.args.now (renew c.args.key.now) None)) c.self.view_is on)

pub returns-clause-refused : goal.returns-clause-refused
returns-clause-refused c = subst (λ (s : CoreState). IfErr c.renew.result (λ e. accepts s.registry (renew c.args.key.now) c.args.now ≡ Err e)) c.self.view_is c.renew.ensures.refused
