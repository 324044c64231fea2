use Rattle.disco_calls.proofs.Listed.{allow_law}
use Rattle.disco_calls.proofs.laws.allow_law.Goals as goal

pub returns : goal.returns
returns c = allow_law
