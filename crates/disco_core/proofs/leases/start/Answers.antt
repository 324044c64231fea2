use Rattle.std.proofs.Common.{Some}
use Rattle.disco_lease.specs.Leases.{marked}
use Rattle.disco_core.proofs.Marks.{is_set}
use Rattle.disco_core.proofs.leases.start.Goals as goal

pub returns-clause-there : goal.returns-clause-there
returns-clause-there c =
    let rec = c.args.rec.now in
    is_set rec.key (Some (marked rec.lease.duration_secs c.args.now)) c.args.leases.now c.register.new.self c.register.ensures.leases
