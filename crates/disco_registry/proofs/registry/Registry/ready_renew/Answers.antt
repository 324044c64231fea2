use Rattle.disco_registry.proofs.registry.Registry.ready_renew.Goals as goal

pub returns-in-Ok-clause-ready : goal.returns-in-Ok-clause-ready
returns-in-Ok-clause-ready c = rw c.same_ready.ensures (c.in-Ok.ensures.accepted c.args.now, tt)

pub returns-in-Err-clause-refused : goal.returns-in-Err-clause-refused
returns-in-Err-clause-refused c = λ _. c.in-Err.ensures.refused c.args.now
