use Rattle.disco_registry.specs.Op.{op_view}
use Rattle.disco_world.proofs.Writes.{does}
use Rattle.disco_world.proofs.runs.perform.Goals as goal

pub returns-clause-does : goal.returns-clause-does
returns-clause-does c =
    rw (c.written.ensures, c.version.ensures) (does c.args.hub.now c.write-applied.new.self (op_view c.args.op) c.args.now c.write-applied.result c.write-applied.ensures.rest.rounds c.write-applied.ensures.done c.write-applied.ensures.refused)
