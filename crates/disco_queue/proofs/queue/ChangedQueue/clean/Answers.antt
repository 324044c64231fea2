use Rattle.std.proofs.Common.{◌≡◌, length, drop, ap, arith}
use Rattle.std.proofs.lemmas.List.{length-drop}
use Rattle.disco_queue.proofs.Fronts.{first_before-le}
use Rattle.disco_queue.proofs.Histories.{keeps_dropped}
use Rattle.disco_queue.proofs.queue.ChangedQueue.clean.Goals as goal

pub returns-in-Some-clause-history : goal.returns-in-Some-clause-history
returns-in-Some-clause-history c h =
    let step = c.drop_before.ensures in
    keeps_dropped c.args.self.now c.drop_before.new.self h c.drop_before.result (omega (arith, step.dropped, first_before-le c.in-Some.bound c.args.self.now.kept)) step.base step.kept

pub returns-in-Some-clause-version : goal.returns-in-Some-clause-version
returns-in-Some-clause-version c =
    let step = c.drop_before.ensures in
    let kept = c.args.self.now.kept in
    let left : length c.drop_before.new.self.kept ≡ length (drop c.drop_before.result kept) = ap length step.kept in
    omega (arith, step.base, step.dropped, left, length-drop c.drop_before.result kept, first_before-le c.in-Some.bound kept)
