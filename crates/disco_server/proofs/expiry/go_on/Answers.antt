use Rattle.std.proofs.Common.{refl}
use Rattle.disco_server.proofs.expiry.go_on.Goals as goal

pub returns-in-Some : goal.returns-in-Some
returns-in-Some g c = (c.cancel_next.new.run, c.in-Some.ensures, refl)

pub returns-in-None : goal.returns-in-None
returns-in-None g c = (c.cancel_next.new.run, c.in-None.ensures, refl, c.is_left-more.ensures)
