use Rattle.disco_values.specs.Places.{NameComesAfter}
use Rattle.disco_values.proofs.entries.place.Given as goal

abbrev pub invariant-loop-i : goal.invariant-loop-i
invariant-loop-i l = NameComesAfter l.name l.entries l.i
