use Rattle.std.proofs.Common.{Some, ap, ◌∙◌}
use Rattle.disco_writer.proofs.places.text_at.Goals as goal

pub returns-in-Some : goal.returns-in-Some
returns-in-Some c = ap (λ t. Some t) c.as_slice.ensures ∙ c.in-Some.ensures

pub returns-in-None : goal.returns-in-None
returns-in-None c = c.in-None.ensures
