use Rattle.disco_history.proofs.LastOf.{IsLastOf}
use Rattle.disco_history.proofs.change.last_of.Given as goal

abbrev pub invariant-loop-i : goal.invariant-loop-i
invariant-loop-i l = IsLastOf l.changes l.key l.i l.last
