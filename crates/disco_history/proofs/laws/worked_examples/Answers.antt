use Rattle.disco_history.proofs.Worked.{worked}
use Rattle.disco_history.proofs.laws.worked_examples.Goals as goal

pub returns : goal.returns
returns c = worked
