use Rattle.std.proofs.Common.{◌≡◌, map, take}
use Rattle.disco_cache.specs.Kept.{doc_key}
use Rattle.disco_cache.proofs.cache.keys_of.Given as goal

abbrev pub invariant-loop-doc : goal.invariant-loop-doc
invariant-loop-doc l = map (λ k. k.now) l.keys.items ≡ map doc_key (take l.doc-index l.fn.docs)
