-- The routes.
use Rattle.std.specs.Prelude.{ℕ, List, [], ◌∷◌, codes, Bool, true, false, if◌then◌else◌, Option, None, option_map, Result, Ok, Err}
use Rattle.std.specs.Str.{is_utf8}
use Rattle.matchit.specs.Rows.{RowsOf}
use Rattle.matchit.specs.Route.{Scan, parse_route}
use Rattle.matchit.specs.Order.{placed}
use Rattle.matchit.specs.Router.{RouteOf, route_from}
use Rattle.matchit.specs.Seek.{first}
use Rattle.matchit.specs.declared.error.InsertError.{InsertError}
use Rattle.acd_http.specs.declared.routes.Route.{Route}
use Rattle.acd_http.specs.declared.routes.Route.TheVariants.{Services, Agent, Call, Device, Queue, Events, History, MonitorEvents, Report, Snapshot, Requests}

-- it leads to the services, and not to a read
abbrev pub is_services : Route → Bool
is_services Services = true
is_services Agent = false
is_services Call = false
is_services Device = false
is_services Queue = false
is_services Events = false
is_services History = false
is_services MonitorEvents = false
is_services Report = false
is_services Snapshot = false
is_services Requests = false

abbrev pub scanned : Result Scan InsertError → Route → RowsOf (RouteOf Route) → RowsOf (RouteOf Route)
scanned (Ok s) value old = let r = route_from s value in placed (r.pattern, r) old
scanned (Err e) value old = old

-- with one route more
abbrev pub add : List ℕ → Route → RowsOf (RouteOf Route) → RowsOf (RouteOf Route)
add text value old = scanned (parse_route text) value old

-- with some routes more, the last of which is added first
abbrev pub add_all : List (List ℕ × Route) → RowsOf (RouteOf Route) → RowsOf (RouteOf Route)
add_all [] old = old
add_all (p ∷ ps) old = add p.0 p.1 (add_all ps old)

-- all routes, each with its path
abbrev pub paths : List (List ℕ × Route)
paths =
    (codes "/requests", Requests)
    ∷ (codes "/history", History)
    ∷ (codes "/snapshot", Snapshot)
    ∷ (codes "/reports/queues", Report)
    ∷ (codes "/monitors/{id}/events", MonitorEvents)
    ∷ (codes "/events", Events)
    ∷ (codes "/queues/{id}", Queue)
    ∷ (codes "/devices/{id}", Device)
    ∷ (codes "/calls/{id}", Call)
    ∷ (codes "/agents/{id}", Agent)
    ∷ (codes "/csta", Services)
    ∷ []

-- as matchit holds them
unfoldable pub table : RowsOf (RouteOf Route)
table = add_all paths []

-- the route of a path, as matchit matches it
abbrev pub matched : List ℕ → Option Route
matched path = option_map (λ r. r.value) (first table path)

-- a path that isn't UTF-8 leads nowhere
unfoldable pub route_of : List ℕ → Option Route
route_of path = if is_utf8 path then matched path else None
