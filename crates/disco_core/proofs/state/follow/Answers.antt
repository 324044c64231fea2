use Rattle.std.proofs.Common.{Option, ap, subst, ◌∙◌}
use Rattle.disco_history.specs.Change.{Entry}
use Rattle.disco_registry.specs.Commit.{held_after}
use Rattle.disco_core.specs.State.{Prepared}
use Rattle.disco_core.specs.Written.{AreWritten}
use Rattle.disco_core.proofs.state.follow.Goals as goal

pub returns-in-Some-clause-written : goal.returns-in-Some-clause-written
returns-in-Some-clause-written c = λ are.
    let held = c.args.registry.now.held in
    subst (λ (o : Option Entry). AreWritten c.follow-in-Some-2.new.self (held_after held o)) (c.in-Some.ensures.change ∙ ap (λ (p : Prepared). p.change) c.ready.view_is) (c.follow-in-Some-2.ensures held are)
