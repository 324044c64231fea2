use Rattle.std.proofs.Common.{◌≡◌, true, ◌++◌, map}
use Rattle.std.specs.FinMap.{entries}
use Rattle.std.specs.List.{All}
use Rattle.disco_history.specs.Change.{is_proper}
use Rattle.disco_queue.specs.Latest.{Latest}
use Rattle.disco_queue.specs.Numbers.{keyed_change, numbered, numbered_ids}
use Rattle.disco_queue.specs.Seen.{change_of}
use Rattle.disco_queue.proofs.latest.add_numbered.Given as goal

abbrev pub invariant-loop-id : goal.invariant-loop-id
invariant-loop-id l =
    (map keyed_change l.found.items ++ numbered_ids (numbered l.before (map change_of l.kept.items)) l.app l.id-iterator ≡ map keyed_change l.initial.found.items ++ numbered_ids (numbered l.before (map change_of l.kept.items)) l.app (entries l.ids))
    × All (λ (p : Latest). is_proper p.2.now ≡ true) l.found.items
