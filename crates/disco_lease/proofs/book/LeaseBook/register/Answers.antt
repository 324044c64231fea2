use Rattle.std.proofs.Common.{Some, ap, ◌∙◌}
use Rattle.std.specs.FinMap.{insert}
use Rattle.disco_lease.specs.Leases.{marked, LeaseEntry}
use Rattle.disco_lease.specs.Seen.{plain_lease}
use Rattle.disco_lease.proofs.Steps.{lease-put, others-put}
use Rattle.disco_lease.proofs.book.LeaseBook.register.Goals as goal

pub returns-clause-leases : goal.returns-clause-leases
returns-clause-leases c =
    rw (← c.self.view_is)
    (lease-put c.self.inside.places c.put.new.self c.args.key.now (marked c.args.duration_secs c.args.now) (c.put.ensures ∙ ap (λ (l : LeaseEntry). insert c.self.inside.places c.args.key.now (Some l)) c.marked.ensures))

pub returns-clause-others : goal.returns-clause-others
returns-clause-others c = rw (← c.self.view_is) (others-put c.self.inside.places c.put.new.self c.args.key.now (Some (plain_lease c.marked.result)) c.put.ensures)
