use Rattle.std.proofs.Common.{◌≡◌, Result, Ok, Err, OnOk}
use Rattle.matchit.specs.Rows.{RowsOf}
use Rattle.matchit.specs.Route.{Scan, parse_route}
use Rattle.matchit.specs.Router.{RouteOf, InsertsRead}
use Rattle.matchit.specs.declared.error.InsertError.{InsertError}
use Rattle.acd_http.specs.declared.routes.Route.{Route}
use Rattle.acd_http.specs.Routing.{scanned}
use Rattle.acd_http.proofs.routes.add.Goals as goal

adds : (s : Result Scan InsertError) (value : Route) (old new : RowsOf (RouteOf Route)) (r : Result (Unit {0}) InsertError) → InsertsRead s value old new r → OnOk r (new ≡ scanned s value old)
adds (Ok s) value old new (Ok u) h = h.1
adds (Ok s) value old new (Err e) h = tt
adds (Err f) value old new (Ok u) h = h.0
adds (Err f) value old new (Err e) h = tt

pub returns : goal.returns
returns c = adds (parse_route c.args.text.now) c.args.route c.args.router.now c.insert.new.self c.insert.result c.insert.ensures
