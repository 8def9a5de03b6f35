-- The table of services: the name of each and the form of its members; and the states that can be asked for.
use Rattle.std.specs.Prelude.{ℕ, List, [], ◌∷◌, ◌++◌, codes, Option}
use Rattle.std.specs.List.{find}
use Rattle.std.specs.Str.{bytes_eq}
use Rattle.acd_terms.specs.States.{pending_name}
use Rattle.acd_terms.specs.declared.command.Command.{Command}
use Rattle.acd_terms.specs.declared.command.Command.TheVariants as command
use Rattle.acd_terms.specs.declared.state.Pending.TheVariants as pending
use Rattle.acd_codec.specs.declared.service.Details.{Details}
use Rattle.acd_codec.specs.declared.service.Details.TheVariants.{Group, Agent, Device, Arrival, Making, Connection, Transfer, State, Monitor, Priority, Nothing}
use Rattle.acd_codec.specs.declared.service.RequestedState.{RequestedState}
use Rattle.acd_codec.specs.declared.service.RequestedState.TheVariants as requested_state
use Rattle.acd_codec.specs.declared.service.Service.{Service}
use Rattle.acd_codec.specs.declared.service.Service.TheVariants.{AddGroup, AddStation, AddAgent, ArriveCall, MakeCall, PhoneOffHook, AnswerCall, HoldCall, RetrieveCall, ClearConnection, DeflectCall, SingleStepTransfer, SetAgentState, MonitorStart, MonitorStop, Tick, SetGroupPriority, RejectCall, ChangeGroup, ChangeAgent}

-- which members a service has, and the command that they make
pub data Form : Type 0 where
  of_group : (ℕ → List ℕ → ℕ → ℕ → Command) → Form
  of_agent : (ℕ → List ℕ → Command) → Form
  of_device : (ℕ → Command) → Form
  of_arrival : Form
  of_making : Form
  of_connection : (ℕ → ℕ → Command) → Form
  of_transfer : (ℕ → ℕ → ℕ → Command) → Form
  of_state : Form
  of_monitor : Form
  of_priority : Form
  of_nothing : Form

-- the name of a service, and its form
abbrev pub row : Service → List ℕ × Form
row AddGroup = (codes "addGroup", of_group command.AddGroup)
row AddStation = (codes "addStation", of_device command.AddStation)
row AddAgent = (codes "addAgent", of_agent command.AddAgent)
row ArriveCall = (codes "arriveCall", of_arrival)
row MakeCall = (codes "makeCall", of_making)
row PhoneOffHook = (codes "phoneOffHook", of_connection command.PhoneOffHook)
row AnswerCall = (codes "answerCall", of_connection command.AnswerCall)
row HoldCall = (codes "holdCall", of_connection command.HoldCall)
row RetrieveCall = (codes "retrieveCall", of_connection command.RetrieveCall)
row ClearConnection = (codes "clearConnection", of_connection command.ClearConnection)
row DeflectCall = (codes "deflectCall", of_transfer command.DeflectCall)
row SingleStepTransfer = (codes "singleStepTransfer", of_transfer command.SingleStepTransfer)
row SetAgentState = (codes "setAgentState", of_state)
row MonitorStart = (codes "monitorStart", of_device command.MonitorStart)
row MonitorStop = (codes "monitorStop", of_monitor)
row Tick = (codes "tick", of_nothing)
row SetGroupPriority = (codes "setGroupPriority", of_priority)
row RejectCall = (codes "rejectCall", of_connection command.RejectCall)
row ChangeGroup = (codes "changeGroup", of_group command.ChangeGroup)
row ChangeAgent = (codes "changeAgent", of_agent command.ChangeAgent)

abbrev pub service_name : Service → List ℕ
service_name s = (row s).0

-- the sixteen that came first
abbrev pub first_services : List Service
first_services =
    AddGroup ∷ AddStation ∷ AddAgent ∷ ArriveCall ∷ MakeCall ∷ PhoneOffHook ∷ AnswerCall ∷ HoldCall
    ∷ RetrieveCall ∷ ClearConnection ∷ DeflectCall ∷ SingleStepTransfer ∷ SetAgentState ∷ MonitorStart
    ∷ MonitorStop ∷ Tick ∷ []

abbrev pub later_services : List Service
later_services = SetGroupPriority ∷ RejectCall ∷ ChangeGroup ∷ ChangeAgent ∷ []

-- the service with this name
abbrev pub service_of : List ℕ → Option Service
service_of text = find (λ s. bytes_eq text (service_name s)) (first_services ++ later_services)

-- the service of a command, and its members
abbrev pub taken_apart : Command → Service × Details
taken_apart (command.AddGroup device name ring wrap) = (AddGroup, Group device name ring wrap)
taken_apart (command.AddStation device) = (AddStation, Device device)
taken_apart (command.AddAgent agent name) = (AddAgent, Agent agent name)
taken_apart (command.ArriveCall caller called) = (ArriveCall, Arrival caller called)
taken_apart (command.MakeCall device called) = (MakeCall, Making device called)
taken_apart (command.PhoneOffHook call device) = (PhoneOffHook, Connection call device)
taken_apart (command.AnswerCall call device) = (AnswerCall, Connection call device)
taken_apart (command.HoldCall call device) = (HoldCall, Connection call device)
taken_apart (command.RetrieveCall call device) = (RetrieveCall, Connection call device)
taken_apart (command.ClearConnection call device) = (ClearConnection, Connection call device)
taken_apart (command.DeflectCall call device to) = (DeflectCall, Transfer call device to)
taken_apart (command.SingleStepTransfer call device to) = (SingleStepTransfer, Transfer call device to)
taken_apart (command.SetAgentState agent requested) = (SetAgentState, State agent requested)
taken_apart (command.MonitorStart device) = (MonitorStart, Device device)
taken_apart (command.MonitorStop monitor) = (MonitorStop, Monitor monitor)
taken_apart command.Tick = (Tick, Nothing)
taken_apart (command.SetGroupPriority device priority) = (SetGroupPriority, Priority device priority)
taken_apart (command.RejectCall call device) = (RejectCall, Connection call device)
taken_apart (command.ChangeGroup device name ring wrap) = (ChangeGroup, Group device name ring wrap)
taken_apart (command.ChangeAgent agent name) = (ChangeAgent, Agent agent name)

abbrev pub requested_state_name : RequestedState → List ℕ
requested_state_name requested_state.LoggedOn = codes "loggedOn"
requested_state_name (requested_state.State state) = pending_name state

-- busy can't be asked for
abbrev pub requested_states : List RequestedState
requested_states =
    requested_state.LoggedOn ∷ requested_state.State pending.LoggedOff ∷ requested_state.State pending.NotReady
    ∷ requested_state.State pending.Ready ∷ requested_state.State pending.WorkingAfterCall ∷ []

-- the state that this name asks for
abbrev pub requested_state_of : List ℕ → Option RequestedState
requested_state_of text = find (λ a. bytes_eq text (requested_state_name a)) requested_states
