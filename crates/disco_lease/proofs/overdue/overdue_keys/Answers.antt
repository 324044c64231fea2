use Rattle.std.proofs.Common.{ℕ, map, ap, ◌∙◌}
use Rattle.std.specs.FinMap.{FinMap, keys}
use Rattle.disco_values.specs.declared.key.Key.{Key}
use Rattle.disco_lease.specs.Due.{due_cmp}
use Rattle.disco_lease.proofs.CollectedKeys.{keys_due}
use Rattle.disco_lease.proofs.overdue.overdue_keys.Goals as goal

pub returns : goal.returns
returns c =
    c.in_ok-keys.ensures.keys
    ∙ keys_due c.in_ok-overdue.overdue.entries c.keys.ensures.ordered
    ∙ ap (λ (m : FinMap due_cmp (Unit {0})). map (λ (d : ℕ × Key). d.1) (keys m)) c.in_ok-overdue.ensures
