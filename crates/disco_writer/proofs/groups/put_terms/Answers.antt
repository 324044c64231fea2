use Rattle.json.specs.Print.{escape_byte, print_from}
use Rattle.disco_writer.specs.Groups.{group_text}
use Rattle.disco_writer.proofs.AppendedTexts.{before, renamed}
use Rattle.disco_writer.proofs.Entries.{entries_last}
use Rattle.disco_writer.proofs.groups.put_terms.Goals as goal

pub returns : goal.returns
unfolding escape_byte group_text print_from
returns c = rw (← c.deref.ensures) (before c.push_entries.result _ _ c.in_ok-put_number.ensures (before c.push_entries.result _ _ c.in_ok-put_number-2.ensures (before c.push_entries.result _ _ c.in_ok-put_number-3.ensures (before c.push_entries.result _ _ c.in_ok-put_number-4.ensures (before c.push_entries.result _ _ c.in_ok-put_number-5.ensures (before c.push_entries.result _ _ c.in_ok-put_number-6.ensures (before c.push_entries.result _ _ c.in_ok-push.ensures (renamed c.push_entries.result _ _ (entries_last c.deref.result.now.metadata) c.push_entries.ensures))))))))
