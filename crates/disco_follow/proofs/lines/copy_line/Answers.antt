use Rattle.std.proofs.Common.{ap, map, ◌∙◌}
use Rattle.serde_json.specs.Written.{has_float}
use Rattle.disco_follow.specs.Seen.{seen_change}
use Rattle.disco_follow.proofs.NoFloats.{in_copy}
use Rattle.disco_follow.proofs.lines.copy_line.Goals as goal

pub line_of-requires : goal.line_of-requires
line_of-requires c = ap has_float c.in_ok-value.ensures ∙ in_copy c.args.at.0 c.args.at.1 (map seen_change c.args.changes.now)
