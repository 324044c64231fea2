use Rattle.std.proofs.Common.{◌≡◌, Option, option_map}
use Rattle.std.specs.List.{filter_map, find}
use Rattle.disco_history.specs.Apps.{is_of_id}
use Rattle.disco_history.specs.Held.{entry_of}
use Rattle.disco_history.specs.declared.held.Held.{Held}
use Rattle.disco_places.specs.KeyMaps.{of_apps}
use Rattle.disco_registry.specs.Records.{AreKeyed}
use Rattle.disco_values.specs.declared.key.Key.{Key}
use Rattle.disco_registry.proofs.records.found_under.Given as goal

abbrev pub invariant-loop-ids : goal.invariant-loop-ids
invariant-loop-ids l =
    (find (is_of_id l.id) (filter_map (λ (e : Key × Option Held). option_map entry_of e.1) (of_apps l.ids-iterator))
    ≡ find (is_of_id l.id) (filter_map (λ (e : Key × Option Held). option_map entry_of e.1) (of_apps l.apps.entries)))
    × AreKeyed (of_apps l.ids-iterator)
