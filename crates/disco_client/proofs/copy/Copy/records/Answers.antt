use Rattle.std.proofs.Common.{map, sym, ap, ◌∙◌}
use Rattle.std.specs.FinMap.{values}
use Rattle.disco_history.specs.Change.{Entry}
use Rattle.disco_client.proofs.Overlays.{values-rows_in}
use Rattle.disco_client.proofs.Shown.{rows-entries}
use Rattle.disco_client.proofs.copy.Copy.records.Goals as goal

pub returns : goal.returns
returns c =
    rows-entries c.as_slice.result.now
    ∙ ap (map (λ (e : Entry). e.0)) c.as_slice.ensures
    ∙ sym (values-rows_in c.self.inside.counted.held)
    ∙ ap values c.self.view_is
