use Rattle.disco_writer.proofs.Steps.{shows_nothing, sweeps, sweeps_filled, text-emptied}
use Rattle.disco_writer.proofs.places.sweep.Goals as goal

pub returns-then-is_none-clause-same : goal.returns-then-is_none-clause-same
returns-then-is_none-clause-same c = text-emptied c.args.places.now c.close.new.self c.args.key.now (shows_nothing c.get.result _ c.get.ensures c.if-is_none.ensures) c.close.ensures

pub returns-then-is_none-clause-swept : goal.returns-then-is_none-clause-swept
returns-then-is_none-clause-swept c = sweeps c.args.places.now c.close.new.self c.args.key.now c.close.ensures

pub returns-else-is_none-clause-swept : goal.returns-else-is_none-clause-swept
returns-else-is_none-clause-swept c = sweeps_filled c.args.places.now c.args.key.now c.get.result c.get.ensures c.if-is_none.ensures
