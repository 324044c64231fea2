use Rattle.std.proofs.Common.{ap}
use Rattle.std.specs.FinMap.{get}
use Rattle.disco_lease.proofs.Steps.{lease-touch, others-put}
use Rattle.disco_lease.proofs.book.LeaseBook.touch.Goals as goal
use Rattle.disco_lease.proofs.book.LeaseBook.touch.Goals.{then-extend, else-extend}

pub returns-clause-leases : goal.returns-clause-leases
returns-clause-leases c = elim c.if-extend.branch [
  | then-extend w ↦ rw (w.result-is, ← c.self.view_is) (lease-touch c.self.inside.places c.extend.new.self c.args.key.now c.args.now (c.extend.ensures.moved w.if-extend.true))
  | else-extend w ↦ rw w.result-is tt
]

pub returns-clause-others : goal.returns-clause-others
returns-clause-others c = elim c.if-extend.branch [
  | then-extend w ↦ rw (← c.self.view_is) (others-put c.self.inside.places c.extend.new.self c.args.key.now _ (c.extend.ensures.moved w.if-extend.true))
  | else-extend w ↦ rw (← c.self.view_is) (λ q apart. ap (λ p. get p q) (c.extend.ensures.same w.if-extend.false))
]
