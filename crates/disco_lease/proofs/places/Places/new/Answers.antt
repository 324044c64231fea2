use Rattle.std.proofs.Common.{ap, ◌∙◌}
use Rattle.disco_lease.specs.Seen.{seen}
use Rattle.disco_lease.proofs.Entries.{seen_none}
use Rattle.disco_lease.proofs.places.Places.new.Goals as goal

pub returns : goal.returns
returns c = ap seen c.new.ensures ∙ seen_none
