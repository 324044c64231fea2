use Rattle.std.proofs.Common.{ap, map, ◌++◌, ◌∙◌}
use Rattle.std.specs.FinMap.{get, values}
use Rattle.std.specs.List.{flat_map}
use Rattle.disco_follow.specs.Changes.{gone_of}
use Rattle.disco_follow.specs.Seen.{seen_change}
use Rattle.disco_follow.proofs.changes.changes_of.Goals as goal

pub returns : goal.returns
returns c =
    let held = c.in_ok-note_all_held.ensures in
    let gone = flat_map (λ r. gone_of (get c.args.now.now r.key) r) (values c.args.before.now) in
    (held.0, held.1, c.in_ok-note_all_gone.ensures ∙ ap (λ l. l ++ gone) (held.2 ∙ ap (λ vs. map seen_change vs ++ held.0) c.new-changes.ensures.items))
