use Rattle.std.proofs.Common.{Ok, rules}
use Rattle.disco_registry.specs.Op.{op_view}
use Rattle.disco_registry.proofs.Histories.{gives_after, stands_same}
use Rattle.disco_registry.proofs.registry.Registry.apply.Goals as goal

pub returns-clause-history : goal.returns-clause-history
returns-clause-history c = λ h stands.
    let before = stands_same h c.args.self.now c.ready.new.self c.ready.ensures.same stands in
    rw c.commit.ensures.change (c.commit.ensures.history h before)

pub returns-in_err-ready-clause-does : goal.returns-in_err-ready-clause-does
returns-in_err-ready-clause-does c h stands = gives_after c.args.self.now h stands (op_view c.args.op) c.args.now _ (search rules) (search rules)

pub returns-clause-does : goal.returns-clause-does
returns-clause-does c h stands = gives_after c.args.self.now h stands (op_view c.args.op) c.args.now (Ok c.commit.result) (search rules) (search rules)
