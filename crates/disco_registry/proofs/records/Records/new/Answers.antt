use Rattle.std.proofs.Common.{None, ap, ◌∙◌}
use Rattle.disco_registry.specs.Records.{mentions_held}
use Rattle.disco_registry.proofs.PlaceSteps.{none_shown, placed-new}
use Rattle.disco_registry.proofs.records.Records.new.Goals as goal

pub invariant_of-result : goal.invariant_of-result
invariant_of-result c = rw c.new.ensures placed-new

pub returns : goal.returns
returns c = ap (λ m. record { held = m; next = None }) (ap mentions_held c.new.ensures ∙ none_shown)
