use Rattle.disco_writer.proofs.AppendedTexts.{before}
use Rattle.disco_writer.proofs.groups.put_done.Goals as goal

pub returns-in_ok-put_action-in-Some : goal.returns-in_ok-put_action-in-Some
returns-in_ok-put_action-in-Some c = rw c.in-Some.is (before c.push.result _ _ c.in_ok-put_action-in-Some.ensures c.push.ensures)
