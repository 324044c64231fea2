use Rattle.std.proofs.Common.{None, sym, subst}
use Rattle.disco_writer.specs.Empty.{OnlyNextIsEmpty}
use Rattle.disco_writer.specs.Kept.{Places}
use Rattle.disco_writer.proofs.Steps.{only_next-new}
use Rattle.disco_writer.proofs.texts.Texts.new.Goals as goal

pub invariant_of-result : goal.invariant_of-result
invariant_of-result c = subst (λ (p : Places). OnlyNextIsEmpty None p) (sym c.new.ensures) only_next-new
