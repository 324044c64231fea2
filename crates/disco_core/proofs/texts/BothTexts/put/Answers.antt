use Rattle.disco_core.specs.contracts.texts.BothTexts.{the_view}
use Rattle.std.proofs.Common.{sym, subst}
use Rattle.disco_core.specs.Written.{AreWritten, HasTexts, KeptTexts}
use Rattle.std.proofs.Common.{Some}
use Rattle.disco_core.proofs.KeptTexts.{put_are}
use Rattle.disco_core.proofs.texts.BothTexts.put.Goals as goal

pub returns : goal.returns
returns c = λ e m has are.
    put_are (the_view c.self.inside) record { full = c.put.new.self; compact = c.put-2.new.self } e m
    (subst (λ (w : KeptTexts). HasTexts w (Some e)) (sym c.self.view_is) has) c.put.ensures.put c.put-2.ensures.put
    (subst (λ (w : KeptTexts). AreWritten w m) (sym c.self.view_is) are)
