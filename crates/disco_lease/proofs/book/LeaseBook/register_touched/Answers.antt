use Rattle.std.proofs.Common.{Some, ap, ◌∙◌}
use Rattle.std.specs.FinMap.{insert}
use Rattle.disco_lease.specs.Leases.{extended, marked, LeaseEntry}
use Rattle.disco_lease.specs.Seen.{plain_lease}
use Rattle.disco_lease.proofs.Steps.{lease-put, others-put}
use Rattle.disco_lease.proofs.book.LeaseBook.register_touched.Goals as goal

pub returns-clause-leases : goal.returns-clause-leases
returns-clause-leases c =
    rw (← c.self.view_is)
    (lease-put c.self.inside.places c.put.new.self c.args.key.now (extended c.args.now (marked c.args.duration_secs c.args.now))
    (c.put.ensures ∙ ap (λ (l : LeaseEntry). insert c.self.inside.places c.args.key.now (Some l)) (c.extended.ensures ∙ ap (extended c.args.now) c.marked-lease.ensures)))

pub returns-clause-others : goal.returns-clause-others
returns-clause-others c = rw (← c.self.view_is) (others-put c.self.inside.places c.put.new.self c.args.key.now (Some (plain_lease c.extended.result)) c.put.ensures)
