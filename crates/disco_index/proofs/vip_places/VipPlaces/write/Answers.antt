use Rattle.std.proofs.Common.{[], ◌∷◌, rules}
use Rattle.disco_history.specs.Query.{vips}
use Rattle.disco_history.specs.Slots.{written}
use Rattle.disco_index.proofs.Alterings.{left-step, written-twice}
use Rattle.disco_index.proofs.vip_places.VipPlaces.write.Goals as goal

pub loop-vip-preserved : goal.loop-vip-preserved
loop-vip-preserved c = (
  search rules,
  left-step (written c.args.there) (written-twice c.args.there) (vips c.args.address.now) c.args.key.now c.args.self.now (c.in-Some.vip.now ∷ []) (vips c.loop-vip.rest.now) (vips c.in-Some.after.now) c.loop-vip.self c.write_one.new.self
      c.in-Some.ensures c.write_one.ensures c.loop-vip.invariant.1,
)
