use Rattle.std.proofs.Common.{ap, map, ◌∙◌}
use Rattle.serde_json.specs.Written.{has_float}
use Rattle.disco_instance.specs.Row.{row}
use Rattle.disco_follow.proofs.NoFloats.{in_vip}
use Rattle.disco_follow.proofs.lines.vip_line.Goals as goal

pub line_of-requires : goal.line_of-requires
line_of-requires c = ap has_float c.in_ok-value.ensures ∙ in_vip c.args.vip.now (map (λ r. row r.now) c.args.up.now)
