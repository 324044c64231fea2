use Rattle.std.proofs.Common.{◌≡◌, map, drop}
use Rattle.serde_json.specs.View.{view}
use Rattle.disco_wire.specs.Meaning.{all_told}
use Rattle.disco_wire.specs.Steps.{told_item, told_on}
use Rattle.disco_wire.specs.Wire.{tell_all}
use Rattle.disco_wire.proofs.document.push_apps.Given as goal

abbrev pub invariant-loop-value : goal.invariant-loop-value
invariant-loop-value l = told_on (tell_all l.out.items) (all_told told_item (map view (drop l.value-index l.values))) ≡ told_on (tell_all l.fn.out.items) (all_told told_item (map view l.values))
