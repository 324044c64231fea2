use Rattle.std.proofs.Common.{Result, subst, sym}
use Rattle.disco_values.specs.declared.fault.Fault.{Fault}
use Rattle.disco_registry.specs.Op.{OpView}
use Rattle.disco_world.specs.Events.{writes}
use Rattle.disco_world.specs.Steps.{Performs}
use Rattle.disco_world.proofs.Writes.{declines}
use Rattle.disco_world.proofs.runs.write.Goals as goal

pub returns-in-Ok-clause-does : goal.returns-in-Ok-clause-does
returns-in-Ok-clause-does c = λ asked gives.
    let is = rw c.in-Ok.is at gives in
    subst (λ (a : Result OpView Fault). Performs c.args.hub.now c.perform.new.hub (λ _. writes c.args.now a) c.perform.result) (sym is) c.perform.ensures.does

pub returns-in-Err-clause-does : goal.returns-in-Err-clause-does
returns-in-Err-clause-does c = λ asked gives. declines c.args.hub.now asked c.args.now c.in-Err.fault (rw c.in-Err.is at gives)
