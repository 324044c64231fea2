use Rattle.std.proofs.Common.{◌≡◌, map, take}
use Rattle.disco_hub.proofs.round.copies.Given as goal

abbrev pub invariant-loop-key : goal.invariant-loop-key
invariant-loop-key l = l.copies.items ≡ map (λ k. k.now) (take l.key-index l.keys)
