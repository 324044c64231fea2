use Rattle.json.specs.Print.{escape_byte, print_from}
use Rattle.disco_writer.specs.Groups.{group_text}
use Rattle.disco_writer.proofs.AppendedTexts.{before, last}
use Rattle.disco_writer.proofs.groups.put_hosts.Goals as goal

pub returns : goal.returns
unfolding escape_byte group_text print_from
returns c = rw (← c.deref-details.ensures) (before c.put_text-3.result _ _ c.in_ok-put_text.ensures (before c.put_text-3.result _ _ c.in_ok-put_text-2.ensures (last c.put_text-3.result _ _ _ c.put_text-3.ensures)))
