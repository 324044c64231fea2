use Rattle.disco_history.proofs.FormLemmas.{form_law}
use Rattle.disco_history.proofs.laws.form_law.Goals as goal

pub returns : goal.returns
returns c = form_law
