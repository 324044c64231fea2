use Rattle.std.proofs.Common.{sym}
use Rattle.disco_hub.proofs.Cancels.{none_yet}
use Rattle.disco_press.proofs.Cancels.{noted_nothing}
use Rattle.disco_press.proofs.desk.Desk.cancel_overdue.Goals as goal

pub cancel_all-requires : goal.cancel_all-requires
cancel_all-requires g c = record { none_yet = noted_nothing c.args.self.now _ (λ p _. sym (none_yet _ p _ _)) }
