use Rattle.std.proofs.Common.{sym, ap, ◌∙◌}
use Rattle.std.specs.FinMap.{len}
use Rattle.disco_client.proofs.Overlays.{len-rows_in}
use Rattle.disco_client.proofs.copy.Copy.len.Goals as goal

pub returns : goal.returns
returns c = c.len.ensures ∙ sym (len-rows_in c.self.inside.counted.held) ∙ ap len c.self.view_is
