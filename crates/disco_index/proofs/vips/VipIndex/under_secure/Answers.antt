use Rattle.std.proofs.Common.{◌∙◌}
use Rattle.disco_index.specs.Vips.{secure}
use Rattle.disco_index.proofs.VipLaws.{under_vip_law}
use Rattle.disco_index.proofs.vips.VipIndex.under_secure.Goals as goal

pub returns-clause-restriction : goal.returns-clause-restriction
returns-clause-restriction c = λ m rows is same. c.in_ok-secure_keys.ensures ∙ under_vip_law c.args.self.now m rows (secure c.args.vip.now) is same
