use Rattle.std.proofs.Common.{◌∙◌, ap, codes}
use Rattle.matchit.specs.Route.{parse_route}
use Rattle.disco_calls.specs.declared.route.Route.TheVariants.{Apps, Delta, App}
use Rattle.disco_calls.specs.Table.{with_apps, with_row}
use Rattle.disco_calls.proofs.Rows.{put, put_last}
use Rattle.disco_calls.proofs.routes.add_apps.Goals as goal

pub returns : goal.returns
unfolding with_apps
returns c =
    let one = put (parse_route (codes "/apps")) Apps _ _ _ c.in_ok-insert.ensures in
    let two = put (parse_route (codes "/apps/")) Apps _ _ _ c.in_ok-insert-2.ensures ∙ ap (with_row (parse_route (codes "/apps/")) Apps) one in
    let three = put (parse_route (codes "/apps/delta")) Delta _ _ _ c.in_ok-insert-3.ensures ∙ ap (with_row (parse_route (codes "/apps/delta")) Delta) two in
    put_last (parse_route (codes "/apps/{app}")) App _ _ _ _ c.insert-4.ensures three
