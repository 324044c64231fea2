use Rattle.std.proofs.Common.{refl}
use Rattle.std.specs.FinMap.{get}
use Rattle.std.specs.Option.{option_flatten}
use Rattle.disco_lease.proofs.Steps.{lease-made, others-put, place-open, place-put}
use Rattle.disco_lease.proofs.book.LeaseBook.ready.Goals as goal

pub returns-clause-same : goal.returns-clause-same
returns-clause-same c =
    let m = c.self.inside.places in
    rw (← c.self.view_is)
    (record {
      leases = lease-made m c.make.new.self c.args.key.now c.in_ok-make.ensures.ok;
      renewals = refl;
      closed = refl;
    })

pub returns-clause-place : goal.returns-clause-place
returns-clause-place c =
    let m = c.self.inside.places in
    let k = c.args.key.now in
    place-open m c.make.new.self k (option_flatten (get m k)) c.in_ok-make.ensures.ok

pub returns-clause-places : goal.returns-clause-places
returns-clause-places c =
    let m = c.self.inside.places in
    let k = c.args.key.now in
    rw (← c.self.view_is) (place-put m c.make.new.self k (option_flatten (get m k)) c.in_ok-make.ensures.ok)

pub returns-clause-others : goal.returns-clause-others
returns-clause-others c =
    let m = c.self.inside.places in
    let k = c.args.key.now in
    rw (← c.self.view_is) (others-put m c.make.new.self k (option_flatten (get m k)) c.in_ok-make.ensures.ok)
