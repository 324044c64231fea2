use Rattle.std.proofs.Common.{◌≡◌, length}
use Rattle.disco_message.specs.Target.{with_slash, from_path}
use Rattle.disco_message.proofs.target.behind_authority.Given as goal

abbrev pub invariant-loop-rest : goal.invariant-loop-rest
invariant-loop-rest l = with_slash (from_path l.rest) ≡ with_slash (from_path l.target)

abbrev pub decreases-loop-rest : goal.decreases-loop-rest
decreases-loop-rest l = length l.rest
