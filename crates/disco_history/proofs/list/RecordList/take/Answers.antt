use Rattle.std.proofs.Common.{sym, ap, ◌∙◌}
use Rattle.std.specs.FinMap as map
use Rattle.disco_history.specs.List.{map_of, key_in}
use Rattle.disco_history.specs.Room.{Room}
use Rattle.disco_history.proofs.Keys.{keys_total, exact_keys}
use Rattle.disco_history.specs.Held.{entry_of}
use Rattle.disco_history.proofs.SortedBy.{removed_at, remove_gap}
use Rattle.disco_history.proofs.list.RecordList.take.Goals as goal

pub invariant_of-self : goal.invariant_of-self
invariant_of-self c =
    let at = rw c.deref.ensures.value at c.in-Ok.ensures.found in
    rw c.remove.ensures.items (removed_at keys_total exact_keys key_in entry_of c.self.inside.records.items c.args.key.now c.in-Ok.i c.self.invariant at).0

pub returns-in-Ok-clause-held : goal.returns-in-Ok-clause-held
returns-in-Ok-clause-held c =
    let at = rw c.deref.ensures.value at c.in-Ok.ensures.found in
    ap map_of c.remove.ensures.items
    ∙ (removed_at keys_total exact_keys key_in entry_of c.self.inside.records.items c.args.key.now c.in-Ok.i c.self.invariant at).1
    ∙ ap (λ (h : Room). map.remove h.held c.args.key.now) c.self.view_is

pub returns-in_default-clause-held : goal.returns-in_default-clause-held
returns-in_default-clause-held c =
    let gap = rw c.deref.ensures.value at c.in_default.ensures.absent in
    ap (λ (h : Room). h.held) (sym c.self.view_is)
    ∙ remove_gap keys_total exact_keys key_in entry_of c.self.inside.records.items c.args.key.now c.in_default.field-0 c.self.invariant gap
    ∙ ap (λ (h : Room). map.remove h.held c.args.key.now) c.self.view_is
