use Rattle.json.specs.Print.{escape_byte, print_from}
use Rattle.disco_writer.specs.Groups.{group_text}
use Rattle.disco_writer.proofs.AppendedTexts.{before}
use Rattle.disco_writer.proofs.groups.put_center.Goals as goal

pub returns : goal.returns
unfolding escape_byte group_text print_from
returns c = rw (← c.deref.ensures) (before c.push.result _ _ c.in_ok-put_text.ensures (before c.push.result _ _ c.in_ok-put_text-2.ensures (c.push.ensures)))
