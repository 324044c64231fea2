use Rattle.std.proofs.Common.{ap, ◌∙◌}
use Rattle.std.specs.FinMap.{insert}
use Rattle.disco_places.proofs.ByApp.{on_ok}
use Rattle.disco_places.proofs.Stored.{ids_of, one_put}
use Rattle.disco_places.proofs.ids.with_second.Goals as goal

pub returns-in-Ok-clause-ok : goal.returns-in-Ok-clause-ok
returns-in-Ok-clause-ok g c =
    on_ok c.put-done.result
    (λ put. one_put c.in-Ok.ids.entries c.put-done.new.ids.entries c.args.id c.args.value put.0 ∙ ap (λ es. insert (ids_of es) c.args.id c.args.value) c.in-Ok.ensures.ok)
    c.put-done.ensures.ok
