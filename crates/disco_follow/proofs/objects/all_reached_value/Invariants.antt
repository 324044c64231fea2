use Rattle.std.proofs.Common.{◌≡◌, map, take}
use Rattle.serde_json.specs.View.{view}
use Rattle.disco_instance.specs.Row.{row}
use Rattle.disco_follow.specs.Objects.{reached_data}
use Rattle.disco_follow.proofs.objects.all_reached_value.Given as goal

abbrev pub invariant-loop-rec : goal.invariant-loop-rec
invariant-loop-rec l = map view l.values.items ≡ map reached_data (map (λ r. row r.now) (take l.rec-index l.recs))
