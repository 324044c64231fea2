use Rattle.std.proofs.Common.{◌≡◌, take, map, fold}
use Rattle.disco_hub.specs.Stored.{AreInOrder, add_within, seen_keys}
use Rattle.disco_hub.proofs.keys.fill.Given as goal

abbrev pub invariant-loop-key : goal.invariant-loop-key
invariant-loop-key l = AreInOrder l.keys.items × (seen_keys l.keys.items ≡ fold (add_within l.most) (seen_keys l.fn.keys.items) (map (λ k. k.now) (take l.key-index l.kept)))
