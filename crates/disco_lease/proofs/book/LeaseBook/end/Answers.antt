use Rattle.std.specs.FinMap.{get}
use Rattle.disco_lease.proofs.Steps.{lease-out, no-place, none-out, others-out}
use Rattle.disco_lease.proofs.book.LeaseBook.end.Goals as goal

pub returns-clause-leases : goal.returns-clause-leases
returns-clause-leases c = rw (← c.self.view_is) (lease-out c.self.inside.places c.close.new.self c.args.key.now c.close.ensures)

pub returns-clause-others : goal.returns-clause-others
returns-clause-others c = rw (← c.self.view_is) (others-out c.self.inside.places c.close.new.self c.args.key.now c.close.ensures)

pub returns-clause-gone : goal.returns-clause-gone
returns-clause-gone c = no-place (get c.close.new.self c.args.key.now) (none-out c.self.inside.places c.close.new.self c.args.key.now c.close.ensures)
