use Rattle.disco_instance.specs.Row.{row}
use Rattle.disco_index.proofs.VipLaws.{record_put}
use Rattle.disco_index.proofs.vips.VipIndex.add.Goals as goal

pub returns-clause-index : goal.returns-clause-index
returns-clause-index c = λ m e of none is. record_put (row c.args.rec.now) m e c.args.self.now c.place.new.self c.place.ensures.vips of none is
