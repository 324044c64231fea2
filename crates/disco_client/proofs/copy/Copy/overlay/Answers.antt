use Rattle.std.proofs.Common.{map, ap, ◌∙◌}
use Rattle.disco_history.specs.Held.{entry_of}
use Rattle.disco_history.specs.Mentions.{overlay}
use Rattle.disco_wire.specs.Wire.{tell_all}
use Rattle.disco_client.specs.Copies.{rows_by_key}
use Rattle.disco_client.specs.Steps.{after_all}
use Rattle.disco_client.proofs.Overlays.{rows-overlay}
use Rattle.disco_client.proofs.copy.Copy.overlay.Goals as goal

pub returns-clause-overlaid : goal.returns-clause-overlaid
returns-clause-overlaid c =
    let held = c.self.inside.counted.held in
    ap rows_by_key (c.follow_all.ensures
    ∙ ap (λ m. after_all m (map entry_of c.in_ok-taken.taken.items)) c.in_ok-reserve.ensures.same
    ∙ ap (after_all held) c.in_ok-taken.ensures)
    ∙ rows-overlay held (tell_all c.args.wire.mentions)
    ∙ ap (λ s. overlay s (tell_all c.args.wire.mentions)) c.self.view_is
