use Rattle.std.proofs.Common.{◌∙◌, ap, codes}
use Rattle.matchit.specs.Route.{parse_route}
use Rattle.disco_calls.specs.declared.route.Route.TheVariants.{Id, Vip, Svip}
use Rattle.disco_calls.specs.Table.{with_vips, with_row}
use Rattle.disco_calls.proofs.Rows.{put, put_last}
use Rattle.disco_calls.proofs.routes.add_vips.Goals as goal

pub returns : goal.returns
unfolding with_vips
returns c =
    let one = put (parse_route (codes "/instances/{id}")) Id _ _ _ c.in_ok-insert.ensures in
    let two = put (parse_route (codes "/vips/{vip}")) Vip _ _ _ c.in_ok-insert-2.ensures ∙ ap (with_row (parse_route (codes "/vips/{vip}")) Vip) one in
    put_last (parse_route (codes "/svips/{svip}")) Svip _ _ _ _ c.insert-3.ensures two
