use Rattle.std.proofs.Common.{sym, ◌∙◌}
use Rattle.disco_places.proofs.ByApp.{on_ok}
use Rattle.disco_places.proofs.Kept.{put_over}
use Rattle.disco_places.proofs.Stored.{one_put}
use Rattle.disco_places.proofs.ids.with_entry.Goals as goal

pub returns-then-is_same-clause-ok : goal.returns-then-is_same-clause-ok
returns-then-is_same-clause-ok g c = rw c.in-One.is (put_over c.in-One.own c.args.id c.in-One.old c.args.value (sym c.is_same.ensures ∙ c.if-is_same.true))

pub returns-in-Many-clause-ok : goal.returns-in-Many-clause-ok
returns-in-Many-clause-ok g c =
    rw c.in-Many.is (on_ok c.put-done.result (λ put. one_put c.in-Many.ids.entries c.put-done.new.ids.entries c.args.id c.args.value put.0) c.put-done.ensures.ok)
