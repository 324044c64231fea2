-- A row that was put into the router.
use Rattle.std.proofs.Common.{◌≡◌, Result, Ok, Err, OnOk, ap, ◌∙◌}
use Rattle.matchit.specs.Rows.{RowsOf}
use Rattle.matchit.specs.Route.{Scan}
use Rattle.matchit.specs.Router.{RouteOf, InsertsRead}
use Rattle.matchit.specs.declared.error.InsertError.{InsertError}
use Rattle.disco_calls.specs.declared.route.Route.{Route}
use Rattle.disco_calls.specs.Table.{with_row}

pub put : (x : Result Scan InsertError) (value : Route) (old new : RowsOf (RouteOf Route)) (u : Unit {0}) → InsertsRead x value old new (Ok u) → new ≡ with_row x value old
put (Ok s) value old new u h = h.1
put (Err e) value old new u h = h.0

-- the last of several rows, whose insertion may be refused
pub put_last : (x : Result Scan InsertError) (value : Route) (before old new : RowsOf (RouteOf Route)) (r : Result (Unit {0}) InsertError) → InsertsRead x value old new r → old ≡ before → OnOk r (new ≡ with_row x value before)
put_last x value before old new (Ok u) h is = put x value old new u h ∙ ap (with_row x value) is
put_last x value before old new (Err e) h is = tt
