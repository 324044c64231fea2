use Rattle.disco_core.specs.contracts.texts.BothTexts.{the_view}
use Rattle.std.proofs.Common.{sym, subst}
use Rattle.disco_core.specs.Written.{AreWritten, KeptTexts}
use Rattle.disco_core.proofs.KeptTexts.{gone_are}
use Rattle.disco_core.proofs.texts.BothTexts.take.Goals as goal

pub returns : goal.returns
returns c = λ m are.
    gone_are (the_view c.self.inside) record { full = c.take.new.self; compact = c.take-2.new.self } c.args.key.now m c.take.ensures c.take-2.ensures
    (subst (λ (w : KeptTexts). AreWritten w m) (sym c.self.view_is) are)
