use Rattle.std.proofs.Common.{refl}
use Rattle.disco_core.specs.Past.{cleaned}
use Rattle.disco_press.proofs.KeptNotes.{quiet_kept}
use Rattle.disco_press.proofs.desk.Desk.clean.Goals as goal

pub invariant_of-self : goal.invariant_of-self
invariant_of-self g c =
    let i = c.self.inside in
    let k = c.self.invariant in
    quiet_kept i.snapshots i.log i.hub c.clean.new.self i.next i.next _ k (cleaned _ k.past c.args.now) refl refl (c.clean.ensures.history k.past k.levels.stands) c.clean.ensures.rest.rounds refl
