use Rattle.std.proofs.Common.{Option, Some, option_map, sym, ap, subst, ◌∙◌}
use Rattle.disco_history.specs.Change.{Entry, change_view}
use Rattle.disco_registry.specs.Commit.{appended}
use Rattle.disco_registry.specs.State.{StandsFor}
use Rattle.disco_registry.proofs.Histories.{stands_after}
use Rattle.disco_registry.proofs.registry.Registry.commit.Goals as goal

pub returns-in-Some-clause-history : goal.returns-in-Some-clause-history
returns-in-Some-clause-history c = λ h stands.
    subst (λ (o : Option Entry). StandsFor c.take.new.self (appended h o)) (sym (ap (option_map change_view) c.in-Some.is) ∙ c.ready.view_is)
    (stands_after h c.args.self.now c.take.new.self (Some (change_view c.in-Some.change)) c.take.ensures stands)
