use Rattle.std.proofs.Common.{◌≡◌, ◌<◌, ◌-◌, suc, length, rules, of_calls, arith}
use Rattle.std.proofs.lemmas.List.Sorted.{IsPartitionPoint-from_clause}
use Rattle.disco_index.specs.Names.{name}
use Rattle.disco_index.proofs.ChunkSearch.{ended, first_unended, last_ended, parted}
use Rattle.disco_index.proofs.chunks.chunk_of.Goals as goal

pub returns-then-ended-chunks-clause-chunk : goal.returns-then-ended-chunks-clause-chunk
returns-then-ended-chunks-clause-chunk c =
    let cs = c.args.chunks.now in
    let n = name c.args.vip.now c.args.key.now in
    let i = c.partition_point-ended.result in
    let lt : i < length cs = omega (arith, c.if-ended-chunks.true) in
    first_unended cs n c.requires.chunks i lt
    (IsPartitionPoint-from_clause (ended cs n c.requires.chunks) cs i c.partition_point-ended.ensures.partitioned (parted cs n c.requires.chunks) (λ a r f k. search (rules, of_calls)))

pub returns-else-ended-chunks-clause-chunk : goal.returns-else-ended-chunks-clause-chunk
returns-else-ended-chunks-clause-chunk c =
    let cs = c.args.chunks.now in
    let n = name c.args.vip.now c.args.key.now in
    let i = c.partition_point-ended.result in
    let next : suc (i - 1) ≡ i = omega (arith, c.if-ended-chunks.false, c.partition_point-ended.ensures.bound, c.requires.some) in
    let all : i ≡ length cs = omega (arith, c.if-ended-chunks.false, c.partition_point-ended.ensures.bound) in
    last_ended cs n c.requires.chunks i (i - 1) next all
    (IsPartitionPoint-from_clause (ended cs n c.requires.chunks) cs i c.partition_point-ended.ensures.partitioned (parted cs n c.requires.chunks) (λ a r f k. search (rules, of_calls)))
