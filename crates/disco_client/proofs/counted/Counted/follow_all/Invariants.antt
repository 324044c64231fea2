use Rattle.std.proofs.Common.{◌≡◌, ◌≤◌, map, length}
use Rattle.std.specs.Vec.Iter.{into_iter_items}
use Rattle.disco_history.specs.Held.{entry_of}
use Rattle.disco_client.specs.Steps.{after_all}
use Rattle.disco_client.proofs.counted.Counted.follow_all.Given as goal

abbrev pub invariant-loop-change : goal.invariant-loop-change
invariant-loop-change l =
    (after_all l.self.held (map entry_of (into_iter_items l.change-iterator)) ≡ after_all l.fn.self.held (map entry_of l.fn.changes.items))
    × (length (into_iter_items l.change-iterator) ≤ l.self.room)
