use Rattle.std.proofs.Common.{◌≡◌, Some, map, ◌++◌, length}
use Rattle.disco_lines.specs.Lines.{meanings}
use Rattle.disco_lines.proofs.lines.events_of.Given as goal

abbrev pub invariant-loop-rest : goal.invariant-loop-rest
invariant-loop-rest l = map Some l.events.items ++ meanings l.rest ≡ meanings l.input

abbrev pub decreases-loop-rest : goal.decreases-loop-rest
decreases-loop-rest l = length l.rest
