use Rattle.std.proofs.Common.{ap, ◌∙◌}
use Rattle.disco_lease.specs.Seen.{seen}
use Rattle.disco_lease.proofs.Entries.{seen_out}
use Rattle.disco_lease.proofs.places.Places.close.Goals as goal

pub returns : goal.returns
returns c = rw (← c.self.view_is) (ap seen c.close.ensures ∙ seen_out c.self.inside.places c.args.key.now)
