use Rattle.std.proofs.Common.{sym, ap, ◌∙◌}
use Rattle.std.specs.FinMap.{get}
use Rattle.disco_client.proofs.Overlays.{get-rows_in}
use Rattle.disco_client.proofs.copy.Copy.get.Goals as goal

pub returns : goal.returns
returns c =
    c.get.ensures
    ∙ sym (get-rows_in c.self.inside.counted.held c.args.key.now)
    ∙ ap (λ m. get m c.args.key.now) c.self.view_is
