use Rattle.std.proofs.Common.{◌≡◌, ◌≤◌, ◌+◌, ◌-◌, eqb, drop, length}
use Rattle.std.specs.List.{position_or_len}
use Rattle.disco_lines.proofs.find.first_of.Given as goal

abbrev pub invariant-loop-at : goal.invariant-loop-at
invariant-loop-at l = record {
  within : l.at ≤ length l.bytes;
  so_far : position_or_len (λ b. eqb b l.byte) l.bytes ≡ l.at + position_or_len (λ b. eqb b l.byte) (drop l.at l.bytes);
}

abbrev pub decreases-loop-at : goal.decreases-loop-at
decreases-loop-at l = length l.bytes - l.at
