use Rattle.disco_instance.specs.Row.{row}
use Rattle.disco_index.proofs.VipLaws.{record_gone}
use Rattle.disco_index.proofs.vips.VipIndex.take.Goals as goal

pub returns-clause-index : goal.returns-clause-index
returns-clause-index c = λ m e of there is. record_gone (row c.args.rec.now) m e c.args.self.now c.displace.new.self c.displace.ensures.vips of there is
