use Rattle.std.proofs.Common.{option_map, ap, ◌∙◌}
use Rattle.disco_lease.specs.Seen.{plain_lease}
use Rattle.disco_lease.proofs.Entries.{lease_seen}
use Rattle.disco_lease.proofs.places.Places.lease.Goals as goal

pub returns : goal.returns
returns c = rw (← c.self.view_is) (ap (option_map plain_lease) (c.copied.ensures ∙ c.get.ensures) ∙ lease_seen c.self.inside.places c.args.key.now)
