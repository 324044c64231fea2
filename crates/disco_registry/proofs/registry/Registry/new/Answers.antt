use Rattle.std.proofs.Common.{refl, sym, ap, ◌∙◌}
use Rattle.disco_history.proofs.Sets.{said_nil}
use Rattle.disco_registry.specs.Records.{Contents}
use Rattle.disco_registry.proofs.registry.Registry.new.Goals as goal

pub returns-clause-empty : goal.returns-clause-empty
returns-clause-empty c = record { held = ap (λ (s : Contents). s.held) c.new.ensures ∙ sym said_nil; version = refl }
