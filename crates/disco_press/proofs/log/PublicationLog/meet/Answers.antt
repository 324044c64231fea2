use Rattle.std.proofs.Common.{List, ◌∙◌, ap, subst}
use mathlib.Core.List.{IsPrefix}
use Rattle.disco_press.specs.declared.monotone_list.MonotoneList.{MonotoneList}
use Rattle.disco_hub.specs.Press.{Note}
use Rattle.disco_press.specs.Logs.{Logged, logged}
use Rattle.disco_press.specs.declared.entry.LogEntry.{LogEntry}
use Rattle.disco_press.proofs.Publications.{begins_too}
use Rattle.disco_press.proofs.log.PublicationLog.meet.Goals as goal

pub returns : goal.returns
returns g c =
    let P : List (List Note) × Logged → Type 0 = λ t. IsPrefix t.0 t.1.published in
    let same = c.holds.ensures.0 in
    (ap (λ (s : MonotoneList LogEntry). logged s.items) same ∙ c.self.view_is, subst P (λ i. (c.prefix.ensures.1 i, c.self.view_is i)) (begins_too c.prefix.result.now.witness.items c.self.inside.entries.items c.holds.ensures.1))
