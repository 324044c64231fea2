use Rattle.disco_press.proofs.KeptNotes.{begun_kept}
use Rattle.disco_press.proofs.desk.Desk.begin.Goals as goal

pub invariant_of-self-2 : goal.invariant_of-self-2
invariant_of-self-2 g c =
    let i = c.self.inside in
    begun_kept i.snapshots i.log i.hub c.begin.new.self i.next c.new.result _ c.self.invariant c.begin-2.new.self c.in_ok-keys.keys c.in_ok-keys.ensures.begun c.new.ensures c.begin-2.ensures
