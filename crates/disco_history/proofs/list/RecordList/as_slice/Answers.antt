use Rattle.std.proofs.Common.{sym, ap, ◌∙◌, map}
use Rattle.std.specs.FinMap.{values}
use Rattle.disco_history.specs.Held.{entry_of}
use Rattle.disco_history.specs.Room.{Room}
use Rattle.disco_history.proofs.Keys.{keys_total, exact_keys}
use Rattle.disco_history.specs.List.{key_in}
use Rattle.disco_history.proofs.SortedBy.{values_of}
use Rattle.disco_history.proofs.list.RecordList.as_slice.Goals as goal

pub returns : goal.returns
returns c =
    ap (map entry_of) c.deref.ensures.value
    ∙ sym (values_of keys_total exact_keys key_in entry_of c.self.inside.records.items c.self.invariant)
    ∙ ap (λ (r : Room). values r.held) c.self.view_is
