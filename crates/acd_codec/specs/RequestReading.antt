-- The request that bytes represent, or the first faulty member, which ends the reading.
use Rattle.std.specs.Prelude.{◌≡◌, ℕ, List, [], ◌∷◌, Option, Some, None, Result, Ok, Err, if◌then◌else◌}
use Rattle.std.specs.Option.{is_some}
use Rattle.std.specs.Str.{is_utf8}
use Rattle.serde_json.specs.Data.{Data}
use Rattle.serde_json.specs.Read.{read}
use Rattle.serde_json.specs.Find.{as_object}
use Rattle.acd_terms.specs.Results.{◌>>=◌}
use Rattle.acd_terms.specs.declared.command.Request.{Request}
use Rattle.acd_terms.specs.declared.command.Requested.{Requested}
use Rattle.acd_terms.specs.declared.command.Requested.TheVariants as requested
use Rattle.acd_terms.specs.declared.command.Command.{Command}
use Rattle.acd_terms.specs.declared.command.Command.TheVariants.{ArriveCall, MakeCall, SetAgentState, MonitorStop, Tick, SetGroupPriority}
use Rattle.acd_codec.specs.declared.member.Member.{Member}
use Rattle.acd_codec.specs.declared.member.Member.TheVariants as member
use Rattle.acd_codec.specs.declared.fault.ReadFault.{ReadFault}
use Rattle.acd_codec.specs.declared.fault.ReadFault.TheVariants.{Malformed, NoMemory}
use Rattle.acd_codec.specs.declared.service.RequestedState.{RequestedState}
use Rattle.acd_codec.specs.declared.service.RequestedState.TheVariants as requested_state
use Rattle.acd_codec.specs.declared.service.Service.{Service}
use Rattle.acd_codec.specs.Services.{Form, of_group, of_agent, of_device, of_arrival, of_making, of_connection, of_transfer, of_state, of_monitor, of_priority, of_nothing, row}
use Rattle.acd_codec.specs.MemberReading.{is_there, device_in, agent_in, name_in, requester_in, invoke_in, seconds_in, priority_in, serial_in, service_in, requested_state_in, groups_in}

-- a group, its name, its ring and its wrap, the first faulty one first
unfoldable pub group_in : Data → Result (ℕ × List ℕ × ℕ × ℕ) Member
group_in d = do
  device ← device_in member.Device d
  name ← name_in d
  ring ← seconds_in member.Ring d
  wrap ← seconds_in member.Wrap d
  Ok (device, name, ring, wrap)

-- two devices, the first member before the second
unfoldable pub two_devices_in : Member → Member → Data → Result (ℕ × ℕ) Member
two_devices_in m n d = do
  first ← device_in m d
  second ← device_in n d
  Ok (first, second)

-- a call, then a device
unfoldable pub connection_in : Data → Result (ℕ × ℕ) Member
connection_in d = do
  call ← serial_in member.Call d
  device ← device_in member.Device d
  Ok (call, device)

-- the one that `group` names
unfoldable pub one_group_in : Data → Result (List ℕ) Member
one_group_in d = do
  group ← device_in member.Group d
  Ok (group ∷ [])

-- where `group` is there `groups` is ignored; where both are absent the faulty one is `group`
unfoldable pub chosen_in : Data → Result (List ℕ) Member
chosen_in d =
    if is_there member.Group d then one_group_in d
    else (if is_there member.Groups d then groups_in d else Err member.Group)

-- only loggedOn has a device and groups
unfoldable pub requested_in : Data → RequestedState → Result Requested Member
requested_in d requested_state.LoggedOn = do
  device ← device_in member.Device d
  groups ← chosen_in d
  Ok (requested.LoggedOn device groups)
requested_in d (requested_state.State state) = Ok (requested.State state)

-- an agent, then what is asked for, then what only loggedOn has
unfoldable pub set_agent_state_in : Data → Result Command Member
set_agent_state_in d = do
  agent ← agent_in d
  state ← requested_state_in d
  requested ← requested_in d state
  Ok (SetAgentState agent requested)

-- an agent, then a name
unfoldable pub named_agent_in : Data → Result (ℕ × List ℕ) Member
named_agent_in d = do
  agent ← agent_in d
  name ← name_in d
  Ok (agent, name)

-- the members of a form, in their order
abbrev pub form_in : Form → Data → Result Command Member
form_in (of_group make) d = do
  g ← group_in d
  Ok (make g.0 g.1 g.2 g.3)
form_in (of_agent make) d = do
  a ← named_agent_in d
  Ok (make a.0 a.1)
form_in (of_device make) d = do
  device ← device_in member.Device d
  Ok (make device)
form_in of_arrival d = do
  p ← two_devices_in member.Caller member.Called d
  Ok (ArriveCall p.0 p.1)
form_in of_making d = do
  p ← two_devices_in member.Device member.Called d
  Ok (MakeCall p.0 p.1)
form_in (of_connection make) d = do
  c ← connection_in d
  Ok (make c.0 c.1)
form_in (of_transfer make) d = do
  c ← connection_in d
  to ← device_in member.To d
  Ok (make c.0 c.1 to)
form_in of_state d = set_agent_state_in d
form_in of_monitor d = do
  monitor ← serial_in member.Monitor d
  Ok (MonitorStop monitor)
form_in of_priority d = do
  device ← device_in member.Device d
  priority ← priority_in d
  Ok (SetGroupPriority device priority)
form_in of_nothing d = Ok Tick

-- those of a service
abbrev pub command_in : Service → Data → Result Command Member
command_in s d = form_in (row s).1 d

-- the key, then the service, then its members; all other members are ignored
unfoldable pub request_in : Data → Result Request Member
request_in d = do
  requester ← requester_in d
  invoke ← invoke_in d
  service ← service_in d
  command ← command_in service d
  Ok (record { requester = requester; invoke = invoke; command = command })

-- the data is an object
abbrev pub request_from : Option Data → Result Request Member
request_from None = Err member.Json
request_from (Some d) = if is_some (as_object d) then request_in d else Err member.Json

-- the request that the bytes represent
unfoldable pub reads_as : List ℕ → Result Request Member
reads_as bytes = if is_utf8 bytes then request_from (read bytes) else Err member.Json

-- the fault is this reading's, or memory ran out
abbrev pub IsReadFault : {A : Type 0} → ReadFault → Result A Member → Type 0
IsReadFault (Malformed m) reading = reading ≡ Err m
IsReadFault NoMemory reading = Unit {0}

-- a reader returned this, unless memory ran out
abbrev pub Gives : {A : Type 0} → Result A ReadFault → Result A Member → Type 0
Gives (Ok x) reading = reading ≡ Ok x
Gives (Err e) reading = IsReadFault e reading
