use Rattle.std.proofs.Common.{List, subst}
use mathlib.Core.List.{IsPrefix}
use Rattle.disco_hub.specs.Press.{Note}
use Rattle.disco_press.proofs.Publications.{begins_too}
use Rattle.disco_press.proofs.published_log.PublishedLog.is_before.Goals as goal

pub returns : goal.returns
returns g c e =
    let P : List (List Note) × List (List Note) → Type 0 = λ t. IsPrefix t.0 t.1 in
    subst P (λ i. (c.self.view_is i, c.other.view_is i)) (begins_too c.self.inside.prefix.witness.items c.other.inside.prefix.witness.items (c.is_before.ensures.begins e))
