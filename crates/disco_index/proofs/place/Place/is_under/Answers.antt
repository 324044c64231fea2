use Rattle.std.proofs.Common.{ap, ◌∙◌}
use Rattle.std.specs.Ordering.{is_eq}
use Rattle.disco_index.proofs.FirstPiece.{is_same}
use Rattle.disco_index.proofs.place.Place.is_under.Goals as goal

pub returns : goal.returns
returns c = c.is_eq.ensures ∙ ap is_eq c.compare_vip.ensures ∙ is_same c.args.self.now.0.vip c.args.vip.now
