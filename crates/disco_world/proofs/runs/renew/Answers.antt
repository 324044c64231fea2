use Rattle.std.proofs.Common.{Ok, Result, subst, sym}
use Rattle.disco_instance.specs.Instance.{if_ok}
use Rattle.disco_registry.specs.Op as asking
use Rattle.disco_values.specs.declared.fault.Fault.{Fault}
use Rattle.disco_values.specs.declared.key.Key.{Key}
use Rattle.disco_world.specs.Events.{writes}
use Rattle.disco_world.specs.Steps.{Performs}
use Rattle.disco_world.proofs.runs.renew.Goals as goal

pub returns-in-Ok-clause-does : goal.returns-in-Ok-clause-does
returns-in-Ok-clause-does c = λ named gives.
    let is = rw c.in-Ok.is at gives in
    subst (λ (k : Result Key Fault). Performs c.args.hub.now c.perform.new.hub (λ _. writes c.args.now (if_ok k (λ j. Ok (asking.renew j)))) c.perform.result) (sym is) c.perform.ensures.does
