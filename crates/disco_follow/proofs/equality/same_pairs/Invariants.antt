use Rattle.std.proofs.Common.{◌≡◌, take, length}
use Rattle.disco_follow.proofs.equality.same_pairs.Given as goal

abbrev pub invariant-loop-i : goal.invariant-loop-i
invariant-loop-i l = (length l.ones ≡ length l.others) × (take l.i l.ones ≡ take l.i l.others)
