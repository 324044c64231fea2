use Rattle.std.proofs.Common.{◌≡◌, ap, ◌∙◌, map}
use Rattle.std.proofs.lemmas.List.{take_all}
use Rattle.disco_history.specs.Held.{entry_of}
use Rattle.disco_history.specs.Room.{Room}
use Rattle.disco_history.proofs.Lists.{same_map, same_sorted}
use Rattle.disco_history.proofs.list.RecordList.share.Goals as goal

shown_alike : (c : goal.After-loop-held) → map entry_of c.loop-held.records.items ≡ map entry_of c.self.inside.records.items
shown_alike c = c.loop-held.invariant ∙ ap (map entry_of) (take_all c.loop-held.held-index _ c.loop-held-test.false ∙ c.as_slice-held-items.ensures.value)

pub invariant_of-result : goal.invariant_of-result
invariant_of-result c = same_sorted _ c.self.inside.records.items (shown_alike c) c.self.invariant

pub returns : goal.returns
returns c = same_map _ c.self.inside.records.items (shown_alike c) ∙ ap (λ (r : Room). r.held) c.self.view_is
