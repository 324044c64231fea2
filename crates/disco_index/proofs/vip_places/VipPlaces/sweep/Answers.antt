use Rattle.std.proofs.Common.{[], ◌∷◌, rules}
use Rattle.disco_history.specs.Query.{vips}
use Rattle.disco_index.specs.Places.{swept}
use Rattle.disco_index.proofs.Alterings.{left-step, swept-twice}
use Rattle.disco_index.proofs.vip_places.VipPlaces.sweep.Goals as goal

pub loop-vip-preserved : goal.loop-vip-preserved
loop-vip-preserved c = (
  search rules,
  left-step swept swept-twice (vips c.args.address.now) c.args.key.now c.args.self.now (c.in-Some.vip.now ∷ []) (vips c.loop-vip.rest.now) (vips c.in-Some.after.now) c.loop-vip.self c.close.new.self
      c.in-Some.ensures c.close.ensures c.loop-vip.invariant.1,
)
