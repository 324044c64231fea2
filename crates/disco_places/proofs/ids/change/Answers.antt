use Rattle.std.proofs.Common.{refl}
use Rattle.disco_places.proofs.ids.change.Goals as goal

pub returns-in-Some-clause-changed : goal.returns-in-Some-clause-changed
returns-in-Some-clause-changed g c = λ _. (c.in-Some.value, c.f.result, c.in-Some.is, (_, c.f.ensures, refl), refl)
