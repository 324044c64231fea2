use Rattle.std.proofs.Common.{sym}
use Rattle.disco_core.specs.Past.{taken_in}
use Rattle.disco_hub.specs.Expiry.{cancelled}
use Rattle.disco_hub.specs.State.{rules_of}
use Rattle.disco_hub.proofs.Cancels.{none_gone, none_yet}
use Rattle.disco_press.proofs.Cancels.{noted_nothing}
use Rattle.disco_press.proofs.desk.Desk.expire.Goals as goal

pub returns-in-Err-clause-history : goal.returns-in-Err-clause-history
returns-in-Err-clause-history g c = none_gone c.args.self.now.hub c.args.now (λ p. taken_in p c.args.now) c.in-Err.fault c.in-Err.ensures.memory c.in-Err.ensures.refused

pub returns-in-Err-clause-noted : goal.returns-in-Err-clause-noted
returns-in-Err-clause-noted g c =
    let d = c.args.self.now in
    noted_nothing d (λ p. cancelled (rules_of d.hub) p c.args.now (taken_in p c.args.now) 0) (λ p _. sym (none_yet (rules_of d.hub) p c.args.now (taken_in p c.args.now)))

pub cancel_all-requires : goal.cancel_all-requires
cancel_all-requires g c = record { none_yet = noted_nothing c.args.self.now _ (λ p _. sym (none_yet _ p _ _)) }
