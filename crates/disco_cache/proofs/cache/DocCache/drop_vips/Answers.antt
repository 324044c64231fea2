use Rattle.std.proofs.Common.{rules, subst}
use Rattle.disco_history.specs.Query.{vips}
use Rattle.disco_cache.specs.Docs.{Drops}
use Rattle.disco_cache.specs.Kept.{is_of}
use Rattle.disco_cache.proofs.Drops.{left_none, left_step}
use Rattle.disco_cache.proofs.cache.DocCache.drop_vips.Goals as goal

pub loop-vip-preserved : goal.loop-vip-preserved
loop-vip-preserved c = (
  search rules,
  left_step c.args.secure (vips c.args.address.now) (vips c.loop-vip.rest.now) (vips c.in-Some.after.now) c.in-Some.vip.now c.args.self.now c.loop-vip.self c.drop_both.new.self
      c.in-Some.ensures (subst (λ q. Drops (is_of q) c.loop-vip.self c.drop_both.new.self) c.of_vip.ensures c.drop_both.ensures) c.loop-vip.invariant.1,
)

pub returns : goal.returns
returns c = left_none c.args.secure (vips c.args.address.now) (vips c.loop-vip.rest.now) c.args.self.now c.loop-vip.self c.in_default.ensures c.loop-vip.invariant.1
