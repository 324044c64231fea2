use Rattle.std.proofs.Common.{length}
use denote.Text.{Utf8}
use denote.Shadow.{shadow}
use Rattle.disco_history.specs.Query.{vips}
use Rattle.disco_cache.proofs.Drops.{Left}
use Rattle.disco_cache.proofs.cache.DocCache.drop_vips.Given as goal

abbrev pub invariant-loop-vip : goal.invariant-loop-vip
invariant-loop-vip l = shadow (Utf8 l.rest) × Left l.secure (vips l.fn.address) (vips l.rest) l.fn.self l.self

abbrev pub decreases-loop-vip : goal.decreases-loop-vip
decreases-loop-vip l = length (vips l.rest)
