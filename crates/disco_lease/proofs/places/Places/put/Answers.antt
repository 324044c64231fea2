use Rattle.std.proofs.Common.{Some, ap, ◌∙◌}
use Rattle.disco_lease.specs.Seen.{seen}
use Rattle.disco_lease.proofs.Entries.{place_seen, seen_put}
use Rattle.disco_lease.proofs.places.Places.put.Goals as goal

pub returns : goal.returns
returns c =
    let m = c.self.inside.places in
    let k = c.args.key.now in
    rw (← c.self.view_is) (ap seen (c.put.ensures.there (place_seen m k (rw c.self.view_is c.requires))) ∙ seen_put m k (Some c.args.lease))
