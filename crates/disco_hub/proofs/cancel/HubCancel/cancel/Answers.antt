use Rattle.disco_registry.specs.Commit.{done_by}
use Rattle.disco_hub.specs.Cancelling.{CancelsNone}
use Rattle.disco_hub.proofs.Cancels.{one_gone, one_refused}
use Rattle.disco_hub.proofs.Rests.{of_error}
use Rattle.disco_hub.proofs.cancel.HubCancel.cancel.Goals as goal

pub returns-in_err-write-clause-refused : goal.returns-in_err-write-clause-refused
returns-in_err-write-clause-refused c =
    let old = c.args.self.now in
    let e = c.in_err-write.field-0.0 in
    of_error (CancelsNone old c.write.new.self c.args.now c.args.key.now) c.from_residual-in_err-write.result e c.from_residual-in_err-write.ensures
    (one_refused old c.write.new.self c.args.now c.args.key.now c.in_ok-key.key e c.in_ok-key.ensures.cases c.in_err-write.ensures.refused)

pub returns-clause-done : goal.returns-clause-done
returns-clause-done c = one_gone c.args.self.now c.write.new.self c.args.now c.args.key.now c.in_ok-key.key (done_by c.in_ok-write.field-0) c.in_ok-key.ensures.cases c.in_ok-write.ensures.done
