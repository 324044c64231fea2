use Rattle.disco_cache.specs.Kept.{query_of}
use Rattle.disco_cache.proofs.Drops.{both}
use Rattle.disco_cache.proofs.cache.DocCache.drop_both.Goals as goal

pub returns : goal.returns
returns c = both (query_of c.args.query_ref) c.args.self.now c.drop_one.new.self c.drop_one-2.new.self c.drop_one.ensures.docs c.drop_one.ensures.max c.drop_one-2.ensures.docs c.drop_one-2.ensures.max
