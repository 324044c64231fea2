use Rattle.disco_places.proofs.ByApp.{on_ok}
use Rattle.disco_lease.proofs.Entries.{seen_made}
use Rattle.disco_lease.proofs.places.Places.make.Goals as goal

pub returns-clause-ok : goal.returns-clause-ok
returns-clause-ok c = rw (← c.self.view_is) (on_ok c.make.result (seen_made c.self.inside.places c.make.new.self c.args.key.now) c.make.ensures.ok)
