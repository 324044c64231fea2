use Rattle.disco_message.proofs.Written.{certificate_law}
use Rattle.disco_message.proofs.laws.certificate_law.Goals as goal

pub returns : goal.returns
returns c = certificate_law
