use Rattle.std.proofs.Common.{◌≡◌, ◌+◌, length, drop}
use denote.Text.{Utf8}
use denote.Shadow.{shadow}
use Rattle.disco_history.specs.Query.{vips}
use Rattle.disco_index.proofs.Alterings.{IsOpening}
use Rattle.disco_index.proofs.vip_places.VipPlaces.open_all.Given as goal

abbrev pub invariant-loop-piece : goal.invariant-loop-piece
invariant-loop-piece l = shadow (Utf8 l.rest) × (l.rest ≡ drop l.start l.owner.address) × (l.start + length l.rest ≡ length l.owner.address) × IsOpening (vips l.owner.address) l.owner.key l.fn.self (vips l.rest) l.self

abbrev pub decreases-loop-piece : goal.decreases-loop-piece
decreases-loop-piece l = length l.rest
