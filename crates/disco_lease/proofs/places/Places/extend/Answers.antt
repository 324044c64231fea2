use Rattle.std.proofs.Common.{◌≡◌, rules, ap, ◌∙◌}
use Rattle.disco_lease.specs.Leases.{extended}
use Rattle.disco_lease.specs.Seen.{plain_lease}
use Rattle.disco_lease.proofs.Entries.{seen_moved, some_seen}
use Rattle.disco_lease.proofs.places.Places.extend.Goals as goal

pub returns-clause-there : goal.returns-clause-there
returns-clause-there c = rw (← c.self.view_is) (c.update.ensures.there ∙ some_seen c.self.inside.places c.args.key.now)

pub returns-clause-moved : goal.returns-clause-moved
returns-clause-moved c = λ t.
    let made = c.update.ensures.changed t in
    let is : plain_lease made.1 ≡ extended c.args.now (plain_lease made.3.0.now) = search rules in
    rw (← c.self.view_is) (seen_moved c.self.inside.places c.update.new.self c.args.key.now c.args.now made.0 made.1 made.2 (is ∙ ap (λ l. extended c.args.now (plain_lease l)) made.3.2) made.4)
