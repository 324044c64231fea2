use Rattle.disco_wire.proofs.Documents.{document_law}
use Rattle.disco_wire.proofs.laws.document_law.Goals as goal

pub returns : goal.returns
returns c = document_law
