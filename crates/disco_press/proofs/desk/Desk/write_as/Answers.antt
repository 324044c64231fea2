use Rattle.std.proofs.Common.{Some, refl, subst, arith}
use Rattle.disco_history.specs.Change.{change_view}
use Rattle.disco_registry.specs.Commit.{done_by}
use Rattle.disco_registry.specs.Op.{op_view}
use Rattle.disco_registry.specs.declared.op.Applied.{Applied}
use Rattle.disco_hub.specs.State.{rules_of}
use Rattle.disco_hub.specs.Transitions.{Writes}
use Rattle.disco_press.specs.Keeping.{IsKept}
use Rattle.disco_press.proofs.KeptNotes.{quiet_kept, same_kept, written_kept}
use Rattle.disco_press.proofs.desk.Desk.write_as.Goals as goal

pub invariant_of-self : goal.invariant_of-self
invariant_of-self g c =
    let i = c.self.inside in
    let k = c.self.invariant in
    quiet_kept i.snapshots i.log i.hub c.write.new.self i.next i.next _ k k.past refl refl (c.in_err-applied.ensures.refused.history k.past k.levels.stands) c.write.ensures.rest.rounds refl

pub invariant_of-self-in-Changed : goal.invariant_of-self-in-Changed
invariant_of-self-in-Changed g c =
    let i = c.self.inside in
    let done = subst (λ (a : Applied). Writes i.hub c.write.new.self (op_view c.args.op) c.args.now (done_by a)) c.in-Changed.is c.in_ok-applied.ensures.done in
    subst (λ n. IsKept i.snapshots c.change.new.self c.write.new.self i.next n) (omega (arith, c.count.ensures.total))
    (written_kept i.snapshots i.log i.hub c.write.new.self i.next i.next _ c.self.invariant c.change.new.self (rules_of i.hub).queue c.args.now (op_view c.args.op) (Some (change_view c.in-Changed.change)) done.history c.write.ensures.rest.rounds refl c.change.ensures.noted)

pub invariant_of-self-in-Same : goal.invariant_of-self-in-Same
invariant_of-self-in-Same g c =
    let i = c.self.inside in
    let done = subst (λ (a : Applied). Writes i.hub c.write.new.self (op_view c.args.op) c.args.now (done_by a)) c.in-Same.is c.in_ok-applied.ensures.done in
    same_kept i.snapshots i.log i.hub c.write.new.self i.next i.next _ c.self.invariant (rules_of i.hub).queue c.args.now (op_view c.args.op) done.history c.write.ensures.rest.rounds refl
