use Rattle.std.proofs.Common.{◌≡◌, ◌++◌, drop, map}
use Rattle.disco_index.specs.Chunks.{all_in, keys_under}
use Rattle.disco_index.proofs.chunks.under.Given as goal

abbrev pub invariant-loop-chunk : goal.invariant-loop-chunk
invariant-loop-chunk l = map (λ k. k.now) l.found.items ++ keys_under l.vip (all_in (drop l.chunk-index l.chunk-items)) ≡ keys_under l.vip (all_in l.chunks)
