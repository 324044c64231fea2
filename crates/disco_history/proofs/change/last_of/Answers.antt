use Rattle.std.proofs.Common.{◌+◌, subst, ap, ◌∙◌, ◌&&◌, sym}
use Rattle.std.specs.Str.{bytes_eq}
use Rattle.disco_values.specs.declared.key.Key.{Key}
use Rattle.disco_history.proofs.LastOf.{IsLastOf, found, passed}
use Rattle.disco_history.proofs.change.last_of.Goals as goal
use Rattle.disco_history.proofs.change.last_of.Goals.{then-eq, else-eq}

pub loop-i-preserved : goal.loop-i-preserved
loop-i-preserved c =
    let cs = c.args.changes.now in
    let k = c.args.key.now in
    let i = c.loop-i.i in
    let x = c.index-changes-i.result in
    let test = c.eq.ensures ∙ ap (λ (q : Key). bytes_eq q.app k.app && bytes_eq q.id k.id) c.key.ensures in
    elim c.if-eq.branch [
      | then-eq w ↦ subst (IsLastOf cs k (i + 1)) (sym w.last-is) (found cs k i x c.loop-i-test.true c.index-changes-i.is c.eq.result test w.if-eq.true)
      | else-eq w ↦ subst (IsLastOf cs k (i + 1)) (sym w.last-is) (passed cs k i x c.loop-i-test.true c.index-changes-i.is c.eq.result c.loop-i.last test w.if-eq.false c.loop-i.invariant)
    ]
