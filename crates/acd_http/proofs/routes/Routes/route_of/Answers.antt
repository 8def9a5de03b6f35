use Rattle.acd_http.proofs.RouteLemmas.{route_text, route_none}
use Rattle.acd_http.proofs.routes.Routes.route_of.Goals as goal

pub returns-in-Ok : goal.returns-in-Ok
returns-in-Ok c = route_text c.args.path.now c.in-Ok.path.now c.matched.result c.in-Ok.ensures.cases.0 c.in-Ok.ensures.cases.1 c.matched.ensures

pub returns-in-Err : goal.returns-in-Err
returns-in-Err c = route_none c.args.path.now c.in-Err.ensures.cases.0
