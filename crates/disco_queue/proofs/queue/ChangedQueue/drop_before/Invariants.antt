use Rattle.std.proofs.Common.{◌≡◌, ◌+◌, drop, length}
use Rattle.disco_queue.proofs.Fronts.{first_before}
use Rattle.disco_queue.specs.Queue.{AddsNoneEmpty}
use Rattle.disco_queue.proofs.queue.ChangedQueue.drop_before.Given as goal

abbrev pub invariant-loop-self : goal.invariant-loop-self
invariant-loop-self l = record {
  max : l.self.max ≡ l.initial.self.max;
  base : l.self.base ≡ l.initial.self.base + l.dropped;
  kept : l.self.kept ≡ drop l.dropped l.initial.self.kept;
  left : first_before l.bound l.self.kept + l.dropped ≡ first_before l.bound l.initial.self.kept;
  room : l.self.room ≡ l.initial.self.room + l.dropped;
  empty : AddsNoneEmpty l.initial.self l.self;
}

abbrev pub decreases-loop-self : goal.decreases-loop-self
decreases-loop-self l = length l.self.kept
