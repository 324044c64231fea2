use Rattle.disco_history.proofs.Untouched.{untouched_law}
use Rattle.disco_history.proofs.laws.untouched_law.Goals as goal

pub returns : goal.returns
returns c = untouched_law
