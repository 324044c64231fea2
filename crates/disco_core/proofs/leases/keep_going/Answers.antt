use Rattle.std.proofs.Common.{Some}
use Rattle.disco_lease.specs.Leases.{extended, marked}
use Rattle.disco_core.proofs.Marks.{is_set}
use Rattle.disco_core.proofs.leases.keep_going.Goals as goal

pub returns-clause-there : goal.returns-clause-there
returns-clause-there c =
    let rec = c.args.rec.now in
    is_set rec.key (Some (extended c.args.now (marked rec.lease.duration_secs c.args.now))) c.args.leases.now c.register_touched.new.self c.register_touched.ensures.leases
