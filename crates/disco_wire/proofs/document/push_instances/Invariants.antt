use Rattle.std.proofs.Common.{◌≡◌, map, drop}
use Rattle.std.specs.Option.{option_copied}
use Rattle.serde_json.specs.View.{view}
use Rattle.disco_wire.specs.Meaning.{all_told, told_in}
use Rattle.disco_wire.specs.Steps.{told_on}
use Rattle.disco_wire.specs.Wire.{tell_all}
use Rattle.disco_wire.proofs.document.push_instances.Given as goal

abbrev pub invariant-loop-value : goal.invariant-loop-value
invariant-loop-value l = told_on (tell_all l.out.items) (all_told (told_in (option_copied l.within)) (map view (drop l.value-index l.values))) ≡ told_on (tell_all l.fn.out.items) (all_told (told_in (option_copied l.within)) (map view l.values))
