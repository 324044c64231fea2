use Rattle.std.proofs.Common.{sym, ap, ◌∙◌}
use Rattle.std.specs.FinMap as map
use Rattle.disco_history.specs.Room.{Room}
use Rattle.disco_history.proofs.Keys.{keys_total, exact_keys}
use Rattle.disco_history.specs.Held.{entry_of}
use Rattle.disco_history.specs.List.{key_in}
use Rattle.disco_history.proofs.SortedBy.{len_of}
use Rattle.disco_history.proofs.list.RecordList.len.Goals as goal

pub returns : goal.returns
returns c = c.len.ensures ∙ c.self.inside.records.ok.0 ∙ sym (len_of keys_total exact_keys key_in entry_of c.self.inside.records.items c.self.invariant) ∙ ap (λ (h : Room). map.len h.held) c.self.view_is
