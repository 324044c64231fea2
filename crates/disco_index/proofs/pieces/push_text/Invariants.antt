use Rattle.std.proofs.Common.{◌≡◌, ◌+◌, ◌++◌, take, vec_len}
use Rattle.std.specs.Vec.{vec_capacity}
use Rattle.disco_index.proofs.pieces.push_text.Given as goal

abbrev pub invariant-loop-byte : goal.invariant-loop-byte
invariant-loop-byte l = record {
  text : l.out.items ≡ l.fn.out.items ++ take l.byte-index l.byte-items;
  len : vec_len l.out ≡ vec_len l.fn.out + l.byte-index;
  capacity : vec_capacity l.out ≡ vec_capacity l.fn.out;
}
