use Rattle.json.specs.Print.{escape_byte, print_from}
use Rattle.disco_writer.specs.Groups.{group_text}
use Rattle.disco_writer.proofs.AppendedTexts.{before, last}
use Rattle.disco_writer.proofs.groups.put_state.Goals as goal

pub returns : goal.returns
unfolding escape_byte group_text print_from
returns c = rw (← c.deref.ensures) (before c.put_status-2.result _ _ c.in_ok-put_status.ensures (before c.put_status-2.result _ _ c.in_ok-put_number.ensures (before c.put_status-2.result _ _ c.in_ok-put_truth.ensures (before c.put_status-2.result _ _ c.in_ok-put_number-2.ensures (before c.put_status-2.result _ _ c.in_ok-put_truth-2.ensures (before c.put_status-2.result _ _ c.in_ok-put_text.ensures (last c.put_status-2.result _ _ _ c.put_status-2.ensures)))))))
