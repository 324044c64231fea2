use Rattle.std.proofs.Common.{sym, subst}
use Rattle.disco_cache.specs.Docs.{Docs}
use Rattle.disco_core.specs.Past.{nothing}
use Rattle.disco_hub.specs.State.{AreServable}
use Rattle.disco_hub.proofs.Documents.{none_kept}
use Rattle.disco_hub.proofs.hub.Hub.new.Goals as goal

pub returns : goal.returns
returns c = record {
  stands = record { core = c.new.ensures.empty; docs = subst (λ (d : Docs). AreServable c.new.result.delta d.docs (nothing c.args.settings.now.run)) (sym c.new-2.ensures) (none_kept c.new.result.delta (nothing c.args.settings.now.run)) };
  rules = c.new.ensures.rules;
  docs = c.new-2.ensures;
  rounds = c.new-3.ensures;
}
