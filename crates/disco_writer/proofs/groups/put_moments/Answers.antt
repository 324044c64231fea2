use Rattle.json.specs.Print.{escape_byte, print_from}
use Rattle.disco_writer.specs.Groups.{group_text}
use Rattle.disco_writer.proofs.AppendedTexts.{before, last}
use Rattle.disco_writer.proofs.groups.put_moments.Goals as goal

pub returns : goal.returns
unfolding escape_byte group_text print_from
returns c = before c.put_digits-2.result _ _ c.in_ok-put_digits.ensures (last c.put_digits-2.result _ _ _ c.put_digits-2.ensures)
