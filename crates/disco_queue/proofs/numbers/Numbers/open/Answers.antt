use Rattle.disco_places.proofs.ByApp.{on_ok}
use Rattle.disco_queue.proofs.Places.{place_opened}
use Rattle.disco_queue.proofs.numbers.Numbers.open.Goals as goal

pub returns-clause-ok : goal.returns-clause-ok
returns-clause-ok c = rw (← c.self.view_is) (on_ok c.or_insert.result (place_opened c.self.inside.places c.or_insert.new.self c.args.key.now c.or_insert.ensures.there) c.or_insert.ensures.absent)
