use Rattle.std.proofs.Common.{◌≡◌, ◌++◌, map}
use Rattle.disco_history.specs.Places.{filled}
use Rattle.disco_places.specs.KeyMaps.{of_apps}
use Rattle.disco_writer.specs.InOrder.{keyed_text}
use Rattle.disco_writer.proofs.places.walk_keyed.Given as goal

abbrev pub invariant-loop-app : goal.invariant-loop-app
invariant-loop-app l = map keyed_text l.list.items ++ filled (λ t. t) (of_apps l.app-iterator) ≡ filled (λ t. t) (of_apps l.apps.entries)
