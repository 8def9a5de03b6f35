-- The question of a GET or HEAD.
use Rattle.std.specs.Prelude.{ℕ, ◌-◌, List, [], ◌∷◌, length, take, drop, Bool, false, not, ◌&&◌, ◌==◌, nat_le, if◌then◌else◌, codes, Option, Some, None, option_map, Result, Ok, Err}
use Rattle.std.specs.Option.{option_and_then}
use Rattle.std.specs.Result.{result_ok}
use Rattle.acd_terms.specs.Forms.{read_id, agent_digits, device_digits, number_between}
use Rattle.acd_io.specs.Digits.{number_up_to}
use Rattle.acd_http.specs.Query.{after_of}
use Rattle.acd_desk.specs.declared.question.Question.{Question}
use Rattle.acd_desk.specs.declared.question.Question.TheVariants as ask
use Rattle.acd_http.specs.declared.refused.Refused.{Refused}
use Rattle.acd_http.specs.declared.refused.Refused.TheVariants as refused
use Rattle.acd_http.specs.declared.refused.Part.TheVariants as part
use Rattle.acd_http.specs.declared.refused.Allow.TheVariants as allow
use Rattle.acd_http.specs.Target.{path_of, query_of}
use Rattle.acd_http.specs.Routing.{route_of}
use Rattle.acd_http.specs.declared.routes.Route.{Route}
use Rattle.acd_http.specs.declared.routes.Route.TheVariants.{Services, Agent, Call, Device, Queue, Events, History, MonitorEvents, Report, Snapshot, Requests}

-- the rest after the front of a route, and the part before its end
abbrev pub rest_of : List ℕ → List ℕ → List ℕ
rest_of front path = drop (length front) path

abbrev pub before : List ℕ → List ℕ → List ℕ
before end path = take (length path - length end) path

-- 1 to 10 bytes, of which the first is no zero
abbrev pub is_serial : List ℕ → Bool
is_serial [] = false
is_serial (x ∷ xs) = not (x == 48) && nat_le (length (x ∷ xs)) 10

-- a call or a monitor
unfoldable pub serial_of : List ℕ → Option ℕ
serial_of digits = if is_serial digits then option_and_then (number_between 1 1000000000) (number_up_to digits) else None

abbrev pub agent_in_path : List ℕ → Option ℕ
agent_in_path path = result_ok (read_id agent_digits (rest_of (codes "/agents/") path))

abbrev pub device_in_path : List ℕ → List ℕ → Option ℕ
device_in_path front path = result_ok (read_id device_digits (rest_of front path))

abbrev pub monitor_in_path : List ℕ → Option ℕ
monitor_in_path path = serial_of (before (codes "/events") (rest_of (codes "/monitors/") path))

-- an identifier that isn't well formed names nothing
abbrev pub found_or : Option Question → Result Question Refused
found_or (Some x) = Ok x
found_or None = Err refused.NotFound

-- nor is a page read above a number that isn't well formed
abbrev pub paged : Option Question → Result Question Refused
paged (Some x) = Ok x
paged None = Err (refused.Malformed part.After)

-- a malformed `after` is reported first
abbrev pub with_after : Option ℕ → (ℕ → Option Question) → Result Question Refused
with_after None look = Err (refused.Malformed part.After)
with_after (Some after) look = found_or (look after)

-- the question of a GET of a route; the services are none that is read
abbrev pub look_up : Option Route → List ℕ → List ℕ → Result Question Refused
look_up None path query = Err refused.NotFound
look_up (Some Services) path query = Err (refused.MethodNotAllowed allow.Posts)
look_up (Some Agent) path query = found_or (option_map ask.Agent (agent_in_path path))
look_up (Some Call) path query = found_or (option_map ask.Call (serial_of (rest_of (codes "/calls/") path)))
look_up (Some Device) path query = found_or (option_map ask.Device (device_in_path (codes "/devices/") path))
look_up (Some Queue) path query = found_or (option_map ask.Queue (device_in_path (codes "/queues/") path))
look_up (Some Events) path query = paged (option_map ask.Events (after_of query))
look_up (Some History) path query = paged (option_map ask.History (after_of query))
look_up (Some Requests) path query = paged (option_map ask.Requests (after_of query))
look_up (Some MonitorEvents) path query = with_after (after_of query) (λ (after : ℕ). option_map (λ (monitor : ℕ). ask.MonitorEvents monitor after) (monitor_in_path path))
look_up (Some Report) path query = Ok ask.Report
look_up (Some Snapshot) path query = Ok ask.Snapshot

-- the question of a GET of a target
abbrev pub target_looked : List ℕ → Result Question Refused
target_looked target = look_up (route_of (path_of target)) (path_of target) (query_of target)
