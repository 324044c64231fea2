use Rattle.std.proofs.Common.{◌-◌, length}
use Rattle.disco_writer.proofs.in_order.passed.Given as goal

abbrev pub decreases-loop-at : goal.decreases-loop-at
decreases-loop-at l = length l.entries - l.at
