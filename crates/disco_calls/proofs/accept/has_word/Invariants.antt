use Rattle.std.proofs.Common.{◌≡◌, length}
use Rattle.disco_calls.specs.Accept.{has_word}
use Rattle.disco_calls.proofs.accept.has_word.Given as goal

abbrev pub invariant-loop-rest : goal.invariant-loop-rest
invariant-loop-rest l = has_word l.word l.rest ≡ has_word l.word l.value

abbrev pub decreases-loop-rest : goal.decreases-loop-rest
decreases-loop-rest l = length l.rest
