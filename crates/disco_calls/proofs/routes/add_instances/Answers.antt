use Rattle.std.proofs.Common.{◌∙◌, ap, codes}
use Rattle.matchit.specs.Route.{parse_route}
use Rattle.disco_calls.specs.declared.route.Route.TheVariants.{Instance, Status, Metadata}
use Rattle.disco_calls.specs.Table.{with_instances, with_row}
use Rattle.disco_calls.proofs.Rows.{put, put_last}
use Rattle.disco_calls.proofs.routes.add_instances.Goals as goal

pub returns : goal.returns
unfolding with_instances
returns c =
    let one = put (parse_route (codes "/apps/{app}/{id}")) Instance _ _ _ c.in_ok-insert.ensures in
    let two = put (parse_route (codes "/apps/{app}/{id}/status")) Status _ _ _ c.in_ok-insert-2.ensures ∙ ap (with_row (parse_route (codes "/apps/{app}/{id}/status")) Status) one in
    put_last (parse_route (codes "/apps/{app}/{id}/metadata")) Metadata _ _ _ _ c.insert-3.ensures two
