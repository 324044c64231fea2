use Rattle.std.proofs.Common.{◌≡◌, map, take, length}
use Rattle.disco_instance.specs.Row.{row}
use Rattle.disco_follow.proofs.equality.are_same.Given as goal

abbrev pub invariant-loop-i : goal.invariant-loop-i
invariant-loop-i l = (length l.ones ≡ length l.others) × (map (λ h. row h.rec.value) (take l.i l.ones) ≡ map (λ h. row h.rec.value) (take l.i l.others))
