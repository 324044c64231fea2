use Rattle.std.proofs.Common.{eqb, Some, sym, ap, ◌∙◌, arith, w8}
use lib.Count.{count_trailing_zeros}
use lib.Lanes.{chunk}
use Rattle.std.proofs.lemmas.Simd.{length-chunk, bitmask_splat}
use Rattle.disco_lines.proofs.First.{none_in_mask, some_in_mask}
use Rattle.disco_lines.proofs.find.first_in_block.Goals as goal

pub returns-then-places-eq0 : goal.returns-then-places-eq0
returns-then-places-eq0 c =
    let block = c.args.block.now in
    let places = bitmask_splat w8 eqb (chunk 0 8 block) 8 c.args.byte (length-chunk 0 8 block (omega arith)) (omega arith) in
    none_in_mask (λ b. eqb b c.args.byte) block c.requires (sym places ∙ c.if-places-eq0.true)

pub returns-else-places-eq0 : goal.returns-else-places-eq0
returns-else-places-eq0 c =
    let block = c.args.block.now in
    let places = bitmask_splat w8 eqb (chunk 0 8 block) 8 c.args.byte (length-chunk 0 8 block (omega arith)) (omega arith) in
    ap (λ m. Some (count_trailing_zeros 64 m)) places
    ∙ some_in_mask (λ b. eqb b c.args.byte) block c.requires (omega (arith, places))
