use Rattle.std.proofs.Common.{◌≡◌, ◌-◌, List, ◌++◌, length, map, drop, take, arith, sym, ap, ◌∙◌}
use Rattle.std.proofs.lemmas.Slice.{between_to_end}
use Rattle.disco_values.specs.declared.key.Key.{Key}
use Rattle.disco_index.specs.Chunks.{Chunks, all_in, keys_under}
use Rattle.disco_index.proofs.ChunkUnder.{none_left, slice_end, slice_start, slice_stop}
use Rattle.disco_index.proofs.chunks.under.Goals as goal
use Rattle.disco_index.proofs.chunks.under.Goals.{else-loop-chunk-test, then-loop-chunk-test+then-starts_after}

pub loop-chunk-init : goal.loop-chunk-init
loop-chunk-init c =
    let cs = c.args.chunks.now in
    let q = c.args.vip.now in
    let n = c.first_of-n.result in
    let same : take (length cs - n) (drop n cs) ≡ drop n cs = between_to_end cs n (length cs) (omega arith) in
    ap (λ ks. map (λ k. k.now) ks ++ keys_under q (all_in (take (length cs - n) (drop n cs)))) c.new-found.ensures.items
    ∙ slice_start cs c.requires q n (take (length cs - n) (drop n cs)) same c.first_of-n.ensures.chunk

pub returns : goal.returns
returns c =
    let cs = c.args.chunks.now in
    let q = c.args.vip.now in
    let n = c.first_of-n.result in
    let ds : Chunks = take (length cs - n) (drop n cs) in
    let same : ds ≡ drop n cs = between_to_end cs n (length cs) (omega arith) in
    let found : List Key = map (λ k. k.now) c.loop-chunk.found.items in
    none_left found (keys_under q (all_in (drop c.loop-chunk.chunk-index ds))) (keys_under q (all_in cs)) c.loop-chunk.invariant (elim c.loop-chunk-test.branch [
      | else-loop-chunk-test w ↦ slice_end q ds c.loop-chunk.chunk-index (omega arith)
      | then-loop-chunk-test+then-starts_after w ↦ slice_stop cs c.requires q n ds same c.loop-chunk.chunk-index w.chunk-item.result w.loop-chunk-test.true w.chunk-item.is (sym w.starts_after.ensures ∙ w.if-starts_after.true)
    ])
