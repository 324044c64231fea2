-- The table as the router keeps it. Nothing here is to be believed.
use Rattle.std.specs.Prelude.{ℕ, List, [], Result, Ok, Err, codes}
use Rattle.std.specs.List.{before_first, after_first}
use Rattle.matchit.specs.Rows.{RowsOf}
use Rattle.matchit.specs.Order.{placed}
use Rattle.matchit.specs.Route.{Scan, parse_route}
use Rattle.matchit.specs.Router.{RouteOf, route_from}
use Rattle.matchit.specs.declared.error.InsertError.{InsertError}
use Rattle.disco_calls.specs.declared.place.Place.{Place}
use Rattle.disco_calls.specs.declared.place.Place.TheVariants as place
use Rattle.disco_calls.specs.declared.route.Route.{Route}
use Rattle.disco_calls.specs.declared.route.Route.TheVariants.{Apps, Delta, App, Instance, Status, Metadata, Id, Vip, Svip}
use Rattle.disco_calls.specs.Paths.{is_slash}

-- the rows with one more, in its place among them
abbrev pub with_row : Result Scan InsertError → Route → RowsOf (RouteOf Route) → RowsOf (RouteOf Route)
with_row (Ok s) value rows = placed ((route_from s value).pattern, route_from s value) rows
with_row (Err e) value rows = rows

abbrev Rows : Type 0
Rows = RowsOf (RouteOf Route)

-- the rows with those of apps and of the delta
unfoldable pub with_apps : Rows → Rows
with_apps rows =
    with_row (parse_route (codes "/apps/{app}")) App
    (with_row (parse_route (codes "/apps/delta")) Delta
    (with_row (parse_route (codes "/apps/")) Apps
    (with_row (parse_route (codes "/apps")) Apps rows)))

-- the rows with those of an instance of an app
unfoldable pub with_instances : Rows → Rows
with_instances rows =
    with_row (parse_route (codes "/apps/{app}/{id}/metadata")) Metadata
    (with_row (parse_route (codes "/apps/{app}/{id}/status")) Status
    (with_row (parse_route (codes "/apps/{app}/{id}")) Instance rows))

-- the rows with those of ids and vips
unfoldable pub with_vips : Rows → Rows
with_vips rows =
    with_row (parse_route (codes "/svips/{svip}")) Svip
    (with_row (parse_route (codes "/vips/{vip}")) Vip
    (with_row (parse_route (codes "/instances/{id}")) Id rows))

-- all rows
unfoldable pub table : Rows
table = with_vips (with_instances (with_apps []))

-- the parts of a path that stand for names
abbrev pub names : List ℕ → List ℕ
names path = after_first is_slash (after_first is_slash path)

abbrev pub first_name : List ℕ → List ℕ
first_name path = before_first is_slash (names path)

abbrev pub second_name : List ℕ → List ℕ
second_name path = before_first is_slash (after_first is_slash (names path))

-- what a path of a row names
abbrev pub place_filled : Route → List ℕ → Place (List ℕ)
place_filled Apps path = place.Apps
place_filled Delta path = place.Delta
place_filled App path = place.App (first_name path)
place_filled Instance path = place.Instance (first_name path) (second_name path)
place_filled Status path = place.Status (first_name path) (second_name path)
place_filled Metadata path = place.Metadata (first_name path) (second_name path)
place_filled Id path = place.Id (first_name path)
place_filled Vip path = place.Vip (first_name path)
place_filled Svip path = place.Svip (first_name path)
