use Rattle.std.proofs.Common.{ap, ◌∙◌}
use Rattle.std.specs.Ordering.{is_gt}
use Rattle.disco_index.proofs.FirstPiece.{is_after}
use Rattle.disco_index.proofs.place.Place.is_after.Goals as goal

pub returns : goal.returns
returns c = c.is_gt.ensures ∙ ap is_gt c.compare_vip.ensures ∙ is_after c.args.self.now.0.vip c.args.vip.now
