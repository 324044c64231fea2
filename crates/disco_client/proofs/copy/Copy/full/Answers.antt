use Rattle.std.proofs.Common.{map, ap, ◌∙◌}
use Rattle.std.specs.FinMap.{empty}
use Rattle.disco_history.specs.Held.{entry_of}
use Rattle.disco_wire.specs.Wire.{tell_all}
use Rattle.disco_client.specs.Copies.{rows_by_key}
use Rattle.disco_client.specs.Steps.{after_all}
use Rattle.disco_client.proofs.Overlays.{rows-copied}
use Rattle.disco_client.proofs.copy.Copy.full.Goals as goal

pub returns-clause-copied : goal.returns-clause-copied
returns-clause-copied c =
    ap rows_by_key (c.follow_all.ensures
    ∙ ap (λ m. after_all m (map entry_of c.in_ok-taken.taken.items)) (c.in_ok-reserve.ensures.same ∙ c.new-new.ensures)
    ∙ ap (after_all empty) c.in_ok-taken.ensures)
    ∙ rows-copied (tell_all c.args.wire.mentions)
