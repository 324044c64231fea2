use Rattle.std.proofs.Common.{length}
use denote.Text.{Utf8}
use denote.Shadow.{shadow}
use Rattle.disco_history.specs.Query.{vips}
use Rattle.disco_history.specs.Slots.{written}
use Rattle.disco_index.proofs.Alterings.{Left}
use Rattle.disco_index.proofs.vip_places.VipPlaces.write.Given as goal

abbrev pub invariant-loop-vip : goal.invariant-loop-vip
invariant-loop-vip l = shadow (Utf8 l.rest) × Left (written l.there) (vips l.fn.address) l.fn.key l.fn.self (vips l.rest) l.self

abbrev pub decreases-loop-vip : goal.decreases-loop-vip
decreases-loop-vip l = length (vips l.rest)
