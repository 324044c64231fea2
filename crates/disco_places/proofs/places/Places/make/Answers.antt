use Rattle.disco_places.proofs.Lengths.{made}
use Rattle.disco_places.proofs.ByApp.{on_ok}
use Rattle.disco_places.proofs.places.Places.make.Goals as goal

pub returns-clause-ok : goal.returns-clause-ok
returns-clause-ok g c = rw (← c.self.view_is) (on_ok c.or_insert.result (made c.self.inside.places c.args.key.now c.or_insert.new.self c.or_insert.ensures.there) c.or_insert.ensures.absent)
