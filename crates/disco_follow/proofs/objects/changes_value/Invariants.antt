use Rattle.std.proofs.Common.{◌≡◌, map, take}
use Rattle.serde_json.specs.View.{view}
use Rattle.disco_follow.specs.Objects.{change_data}
use Rattle.disco_follow.specs.Seen.{seen_change}
use Rattle.disco_follow.proofs.objects.changes_value.Given as goal

abbrev pub invariant-loop-change : goal.invariant-loop-change
invariant-loop-change l = map view l.values.items ≡ map (λ c. change_data c.0 c.1) (map seen_change (take l.change-index l.changes))
