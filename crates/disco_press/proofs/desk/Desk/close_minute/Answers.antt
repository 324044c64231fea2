use Rattle.std.proofs.Common.{refl}
use Rattle.disco_core.specs.Past.{minute_closed}
use Rattle.disco_press.proofs.KeptNotes.{quiet_kept}
use Rattle.disco_press.proofs.desk.Desk.close_minute.Goals as goal

pub invariant_of-self : goal.invariant_of-self
invariant_of-self g c =
    let i = c.self.inside in
    let k = c.self.invariant in
    quiet_kept i.snapshots i.log i.hub c.close_minute.new.self i.next i.next _ k (minute_closed k.past) refl refl (c.close_minute.ensures.history k.past k.levels.stands) c.close_minute.ensures.rest.rounds refl
