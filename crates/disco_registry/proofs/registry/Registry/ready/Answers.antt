use Rattle.std.proofs.Common.{IfErr, subst}
use Rattle.disco_registry.specs.Accept.{MayRefuse}
use Rattle.disco_registry.specs.Op.{drop_status, set_status}
use Rattle.disco_registry.specs.State.{RegistryState}
use Rattle.disco_registry.proofs.registry.Registry.ready.Goals as goal

pub returns-in-SetStatus-clause-refused : goal.returns-in-SetStatus-clause-refused
returns-in-SetStatus-clause-refused c = rw c.in-SetStatus.is (subst (λ (s : RegistryState). IfErr c.ready_set_status.result (MayRefuse s (set_status c.in-SetStatus.key c.in-SetStatus.text) c.args.now)) c.seek-is_held.ensures.same c.ready_set_status.ensures.refused)

pub returns-in-DropStatus-clause-refused : goal.returns-in-DropStatus-clause-refused
returns-in-DropStatus-clause-refused c = rw c.in-DropStatus.is (subst (λ (s : RegistryState). IfErr c.ready_drop_status.result (MayRefuse s (drop_status c.in-DropStatus.key c.in-DropStatus.text) c.args.now)) c.seek-is_held.ensures.same c.ready_drop_status.ensures.refused)
