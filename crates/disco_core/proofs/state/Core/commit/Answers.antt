use Rattle.std.proofs.Common.{refl, sym, subst, ap, option_map, ◌∙◌, Option}
use Rattle.disco_history.specs.Change.{Entry, change_view}
use Rattle.disco_queue.specs.Queue.{version}
use Rattle.disco_registry.specs.Commit.{Takes, appended, version_after}
use Rattle.disco_registry.specs.State as registry
use Rattle.disco_core.specs.Past.{history, with_change, with_done}
use Rattle.disco_core.specs.State.{IsFor, Prepared, Remembers, CoreState, CoreStandsFor}
use Rattle.disco_core.specs.Tied.{AreLeased}
use Rattle.disco_core.specs.contracts.state.Core.{the_view}
use Rattle.disco_core.proofs.Asks.{stands_on}
use Rattle.disco_core.proofs.Ties.{leased_by, tied_after}
use Rattle.disco_core.proofs.state.Core.commit.Goals as goal

pub invariant_of-self : goal.invariant_of-self
invariant_of-self c =
    let r = c.args.ready in
    let change = ap (λ (x : Prepared). x.change) c.ready.view_is in
    let takes = subst (λ (x : Option Entry). Takes c.self.inside.registry x c.commit.new.self) change c.commit.ensures.takes in
    tied_after c.self.inside.registry c.commit.new.self r.change c.follow.new.counts c.follow.new.index c.self.inside.leases c.follow.new.book c.self.inside.queue c.remember.new.queue c.self.inside.texts c.follow.new.texts
    c.self.invariant.few c.self.invariant.leased c.self.invariant.follows takes c.follow.ensures.counts c.follow.ensures.vips
    (leased_by r.change r.key r.renewal r.moment c.self.inside.leases c.follow.new.book c.follow.ensures.leases c.self.inside.registry.held)
    (c.remember.ensures.version ∙ ap (version_after (version c.self.inside.queue)) (c.ready.invariant.0 ∙ change)) c.self.invariant.written c.follow.ensures.written

pub returns-clause-history : goal.returns-clause-history
returns-clause-history c = λ p ask is stands.
    let r = c.args.ready in
    let old = the_view c.self.inside in
    let new : CoreState = record {
      run = c.self.inside.run;
      registry = c.commit.new.self;
      vips = c.follow.new.index;
      leases = c.follow.new.book;
      texts = c.follow.new.texts;
      queue = c.remember.new.queue;
      retention = c.self.inside.retention;
      delta = c.self.inside.delta;
    } in
    let change = ap (λ (x : Prepared). x.change) c.ready.view_is in
    let takes = subst (λ (x : Option Entry). Takes c.self.inside.registry x c.commit.new.self) change c.commit.ensures.takes in
    let was : CoreStandsFor old p = subst (λ (s : CoreState). CoreStandsFor s p) (sym c.self.view_is) stands in
    let leased = subst (λ m. AreLeased m c.follow.new.book) (sym takes.held) (leased_by r.change r.key r.renewal r.moment c.self.inside.leases c.follow.new.book c.follow.ensures.leases c.self.inside.registry.held c.self.invariant.leased) in
    let held = subst (λ (x : Option Entry). registry.StandsFor c.commit.new.self (appended (history p) x)) change (c.commit.ensures.history (history p) was.registry) in
    let kept = subst (λ (x : Prepared). Remembers c.remember.new.queue (with_change old.queue.max p x.moment (option_map change_view c.ready.inside.kept))) c.ready.view_is (c.remember.ensures.past p was.queue) in
    let on : CoreStandsFor new (with_done old.queue.max p r.moment ask r.change) =
    stands_on old new r p ask (option_map change_view c.ready.inside.kept) refl (subst (λ (s : CoreState). IsFor s r ask) (sym c.self.view_is) is) was held kept (c.ready.invariant.0 ∙ change) leased c.follow.ensures.leases in
    subst (CoreStandsFor new) (λ i. with_done (c.self.view_is i).queue.max p r.moment ask ((sym change ∙ sym c.commit.ensures.change) i)) on
