use Rattle.std.proofs.Common.{◌≡◌, ◌++◌, drop, map}
use Rattle.disco_index.specs.Chunks.{keys_under}
use Rattle.disco_index.proofs.chunk.Chunk.push_under.Given as goal

abbrev pub invariant-loop-place : goal.invariant-loop-place
invariant-loop-place l = map (λ k. k.now) l.found.items ++ keys_under l.vip (drop l.place-index l.self) ≡ map (λ k. k.now) l.fn.found.items ++ keys_under l.vip l.self
