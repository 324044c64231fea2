use Rattle.std.proofs.Common.{◌≡◌, refl, subst}
use Rattle.disco_index.specs.Vips as vips
use Rattle.disco_lease.specs.Leases as leases
use Rattle.disco_core.specs.State.{CoreState}
use Rattle.disco_core.specs.Written.{OpensNoText}
use Rattle.disco_core.proofs.Marks.{on_err}
use Rattle.disco_core.proofs.Ties.{same_from, tied_same}
use Rattle.disco_core.proofs.state.Core.ready.Goals as goal

pub invariant_of-self-in_err-open_places : goal.invariant_of-self-in_err-open_places
invariant_of-self-in_err-open_places c =
    tied_same c.self.inside.registry c.accept.new.held c.self.inside.counts c.self.inside.vips c.open_places.new.index c.self.inside.leases c.open_places.new.book c.self.inside.queue c.open_places.new.queue c.self.inside.texts c.open_places.new.texts
    c.self.invariant c.accept.ensures.same c.open_places.ensures.vips c.open_places.ensures.leases c.open_places.ensures.queue c.open_places.ensures.texts

pub invariant_of-self-2 : goal.invariant_of-self-2
invariant_of-self-2 c =
    tied_same c.self.inside.registry c.accept.new.held c.self.inside.counts c.self.inside.vips c.open_places.new.index c.self.inside.leases c.open_places.new.book c.self.inside.queue c.open_places.new.queue c.self.inside.texts c.open_places.new.texts
    c.self.invariant c.accept.ensures.same c.open_places.ensures.vips c.open_places.ensures.leases c.open_places.ensures.queue c.open_places.ensures.texts

pub returns-in_err-open_places-clause-same : goal.returns-in_err-open_places-clause-same
returns-in_err-open_places-clause-same c = same_from _ _ _ c.self.view_is (record {
  run = refl;
  registry = c.accept.ensures.same;
  vips = c.open_places.ensures.vips;
  leases = c.open_places.ensures.leases;
  texts = c.open_places.ensures.texts;
  queue = c.open_places.ensures.queue;
  retention = refl;
  delta = refl;
})

pub returns-clause-same : goal.returns-clause-same
returns-clause-same c = same_from _ _ _ c.self.view_is (record {
  run = refl;
  registry = c.accept.ensures.same;
  vips = c.open_places.ensures.vips;
  leases = c.open_places.ensures.leases;
  texts = c.open_places.ensures.texts;
  queue = c.open_places.ensures.queue;
  retention = refl;
  delta = refl;
})

pub returns-in_err-open_places-clause-given_back :
    goal.returns-in_err-open_places-clause-given_back
returns-in_err-open_places-clause-given_back c =
    on_err c.from_residual-in_err-open_places.result _
    (subst (λ (s : CoreState). vips.KeepsVipPlaces c.open_places.new.index s.vips × leases.KeepsPlaces c.open_places.new.book s.leases × OpensNoText s.texts c.open_places.new.texts × (c.open_places.new.queue.places ≡ s.queue.places)) c.self.view_is c.in_err-open_places.ensures.given_back)
