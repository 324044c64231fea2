use Rattle.disco_press.proofs.KeptNotes.{copied_kept}
use Rattle.disco_press.proofs.desk.Desk.copy_one.Goals as goal

pub invariant_of-self-2 : goal.invariant_of-self-2
invariant_of-self-2 g c =
    let i = c.self.inside in
    let one = rw c.in-Some.is at c.in_ok-copied.ensures.copied in
    let put = rw c.in-Some.is at c.in_ok-copied.ensures.put in
    copied_kept i.snapshots i.log i.hub c.copy_into.new.self i.next c.copy_into.new.next _ c.self.invariant c.copy.new.self c.in-Some.copied one put c.copy.ensures.noted
