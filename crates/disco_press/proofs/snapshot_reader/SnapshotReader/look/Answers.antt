use Rattle.std.proofs.Common.{List, subst}
use base.Growing.{prefix_refl}
use mathlib.Core.List.{IsPrefix}
use Rattle.disco_hub.specs.Press.{Note}
use Rattle.disco_press.proofs.snapshot_reader.SnapshotReader.look.Goals as goal

pub returns-then-not-is_before-clause-known : goal.returns-then-not-is_before-clause-known
returns-then-not-is_before-clause-known g c = subst (λ (s : List (List Note)). IsPrefix s c.self.inside.known) c.self.view_is (prefix_refl c.self.inside.known)

pub returns-clause-known : goal.returns-clause-known
returns-clause-known g c = subst (λ (s : List (List Note)). IsPrefix s c.in-Some.published) c.self.view_is (c.is_before.ensures c.if-not-is_before.false)
