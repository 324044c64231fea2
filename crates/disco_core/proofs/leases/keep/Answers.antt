use Rattle.std.proofs.Common.{◌≡◌, None, true, false}
use Rattle.disco_lease.specs.Leases.{lease_at}
use Rattle.disco_core.proofs.Marks.{went_on, on_ok}
use Rattle.disco_core.proofs.Ties.{missed}
use Rattle.disco_core.proofs.leases.keep.Goals as goal

pub returns-then-renewal : goal.returns-then-renewal
returns-then-renewal c =
    let k = c.args.key.now in
    let old = c.args.leases.now in
    rw c.if-renewal.true
    (went_on c.renew.result k true c.args.now old c.renew.new.self c.renew.ensures.leases c.renew.ensures.err
    (missed c.renew.result (lease_at old k ≡ None) c.renew.ensures.missing.0 c.renew.ensures.error) c.renew.ensures.renewals c.renew.ensures.closed)

pub returns-else-renewal : goal.returns-else-renewal
returns-else-renewal c =
    let k = c.args.key.now in
    let old = c.args.leases.now in
    rw c.if-renewal.false
    (went_on c.touch.result k false c.args.now old c.touch.new.self c.touch.ensures.leases c.touch.ensures.err
    (missed c.touch.result (lease_at old k ≡ None) c.touch.ensures.missing.0 c.touch.ensures.error) (on_ok c.touch.result _ c.touch.ensures.renewals) c.touch.ensures.closed)
