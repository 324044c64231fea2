use Rattle.std.proofs.Common.{◌≡◌, true, ◌++◌, map}
use Rattle.std.specs.List.{All}
use Rattle.disco_history.specs.Change.{is_proper}
use Rattle.disco_places.specs.KeyMaps.{of_apps}
use Rattle.disco_queue.specs.Latest.{Latest}
use Rattle.disco_queue.specs.Numbers.{keyed_change, numbered, numbered_keys}
use Rattle.disco_queue.specs.Seen.{change_of}
use Rattle.disco_queue.proofs.latest.numbered_in.Given as goal

abbrev pub invariant-loop-app : goal.invariant-loop-app
invariant-loop-app l =
    (map keyed_change l.found.items ++ numbered_keys (numbered l.before (map change_of l.kept.items)) (of_apps l.app-iterator) ≡ numbered_keys (numbered l.before (map change_of l.kept.items)) (of_apps l.initial.app-iterator))
    × All (λ (p : Latest). is_proper p.2.now ≡ true) l.found.items
