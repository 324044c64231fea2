use Rattle.disco_writer.proofs.Entries.{all_left, none_left, one_less}
use Rattle.disco_writer.proofs.members.push_entries.Goals as goal

pub loop-name-init : goal.loop-name-init
loop-name-init c = all_left _ _ _ c.as_slice-name-items.ensures

pub loop-name-preserved : goal.loop-name-preserved
loop-name-preserved c = one_less _ _ _ _ c.as_slice-name-items.result.now _ c.loop-name.name-index c.loop-name-item.result c.loop-name-test.true c.loop-name-item.is c.loop-name.invariant c.in_ok-push_entry.ensures

pub returns : goal.returns
returns c = none_left c.push.result _ _ _ _ c.as_slice-name-items.result.now _ c.loop-name.name-index c.loop-name-test.false c.loop-name.invariant c.push.ensures
