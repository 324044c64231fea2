use Rattle.std.proofs.Common.{◌≡◌, ◌++◌}
use Rattle.disco_places.specs.KeyMaps.{of_apps}
use Rattle.disco_writer.specs.Joined.{shown_by, walked}
use Rattle.disco_writer.proofs.places.walk.Given as goal

abbrev pub invariant-loop-app : goal.invariant-loop-app
invariant-loop-app l = shown_by l.list.items ++ walked (of_apps l.app-iterator) ≡ walked (of_apps l.apps.entries)
