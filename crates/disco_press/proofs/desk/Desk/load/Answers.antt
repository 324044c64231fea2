use Rattle.std.proofs.Common.{refl}
use Rattle.disco_hub.proofs.Rests.{loaded_rest, loaded_stands}
use Rattle.disco_press.proofs.KeptNotes.{quiet_kept}
use Rattle.disco_press.proofs.desk.Desk.load.Goals as goal

pub invariant_of-self : goal.invariant_of-self
invariant_of-self g c =
    let i = c.self.inside in
    let k = c.self.invariant in
    quiet_kept i.snapshots i.log i.hub c.load.new.self i.next i.next _ k (k.past) refl refl (loaded_stands i.hub c.load.new.self c.args.key.now c.load.result c.load.ensures.loads c.load.ensures.as_before k.past k.levels.stands)
    (loaded_rest i.hub c.load.new.self c.args.key.now c.load.result c.load.ensures.loads c.load.ensures.as_before).rounds refl
