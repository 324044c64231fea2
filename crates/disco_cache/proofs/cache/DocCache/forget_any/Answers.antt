use Rattle.disco_cache.proofs.Drops.{none}
use Rattle.disco_cache.proofs.cache.DocCache.forget_any.Goals as goal

pub returns-in_default : goal.returns-in_default
returns-in_default c = rw c.in_default.is (none c.args.self.now)
