use Rattle.json.specs.Print.{escape_byte, print_from}
use Rattle.disco_writer.specs.Groups.{group_text}
use Rattle.disco_writer.proofs.AppendedTexts.{last}
use Rattle.disco_writer.proofs.groups.put_group.Goals as goal

pub returns-in-Country : goal.returns-in-Country
unfolding escape_byte group_text print_from
returns-in-Country c = rw c.in-Country.is (last c.put_number.result _ _ _ c.put_number.ensures)

pub returns-in-Coordination : goal.returns-in-Coordination
unfolding escape_byte group_text print_from
returns-in-Coordination c = rw c.in-Coordination.is (last c.put_truth.result _ _ _ c.put_truth.ensures)

pub returns-in-StatusPage : goal.returns-in-StatusPage
unfolding escape_byte group_text print_from
returns-in-StatusPage c = rw (c.in-StatusPage.is, ← c.deref.ensures) (last c.put_text.result _ _ _ c.put_text.ensures)

pub returns-in-Vip : goal.returns-in-Vip
unfolding escape_byte group_text print_from
returns-in-Vip c = rw (c.in-Vip.is, ← c.deref-in-Vip.ensures) (last c.put_text-in-Vip.result _ _ _ c.put_text-in-Vip.ensures)
