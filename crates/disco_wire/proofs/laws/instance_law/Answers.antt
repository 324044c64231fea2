use Rattle.disco_wire.proofs.Back.{instance_law}
use Rattle.disco_wire.proofs.laws.instance_law.Goals as goal

pub returns : goal.returns
returns c = instance_law
