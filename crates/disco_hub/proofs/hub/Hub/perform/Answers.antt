use Rattle.std.proofs.Common.{rules}
use Rattle.disco_registry.specs.Op.{op_view}
use Rattle.disco_hub.specs.Transitions.{Declines}
use Rattle.disco_hub.proofs.Rests.{of_error}
use Rattle.disco_hub.proofs.hub.Hub.perform.Goals as goal

pub returns-in_err-ready-clause-refused : goal.returns-in_err-ready-clause-refused
returns-in_err-ready-clause-refused c = of_error (Declines c.args.self.now c.ready.new.self (op_view c.args.op) c.args.now) c.from_residual.result _ c.from_residual.ensures (record {
  cause = c.in_err-ready.ensures.refused;
  history = λ p stands. search (rules, c.in_err-ready.ensures.same, stands);
  docs = c.in_err-ready.ensures.same.docs;
})
