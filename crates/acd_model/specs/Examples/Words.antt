-- The words of the worked examples: a plan, who calls whom, and what is asked at which moment.
use Rattle.std.specs.Prelude.{◌≡◌, List, [], ◌∷◌, ◌++◌, codes, Option, Some, None, option_map, Ok}
use Rattle.acd_terms.specs.Forms.{read_id}
use Rattle.acd_terms.specs.Limits.{greatest_limits}
use Rattle.acd_terms.specs.Rows.{empty_rows}
use Rattle.acd_terms.specs.Numbers.{Device, Agent, Moment, EventNumber}
use Rattle.acd_terms.specs.declared.rows.Rows.{Rows}
use Rattle.acd_terms.specs.declared.record.Figures.{Figures}
use Rattle.acd_terms.specs.declared.record.GroupRecord.{GroupRecord}
use Rattle.acd_terms.specs.declared.record.AgentRecord.{AgentRecord}
use Rattle.acd_terms.specs.declared.record.CallRecord.{CallRecord}
use Rattle.acd_terms.specs.declared.record.ConnectionRecord.{ConnectionRecord}
use Rattle.acd_terms.specs.declared.event.Event.{Event}
use Rattle.acd_terms.specs.declared.event.Report.{Report}
use Rattle.acd_terms.specs.declared.command.Command.{Command}
use Rattle.acd_terms.specs.declared.command.Command.TheVariants.{AddGroup, AddStation, AddAgent, ArriveCall, AnswerCall, SetAgentState}
use Rattle.acd_terms.specs.declared.command.Requested.TheVariants.{LoggedOn, State}
use Rattle.acd_terms.specs.declared.state.AgentState.TheVariants.{Null, NotReady, Ready}
use Rattle.acd_terms.specs.declared.state.ConnectionState.TheVariants.{Alerting, Connected}
use Rattle.acd_terms.specs.declared.state.Pending.{Pending}
use Rattle.acd_terms.specs.declared.state.Pending.TheVariants as pending
use Rattle.acd_model.specs.Scans.{group_of}
use Rattle.acd_model.specs.Services.AddGroup.{no_figures}
use Rattle.acd_model.specs.Run.{TimedCommand, AfterRun, run}

-- the groups 100 and 110, the stations 201 to 203, the agents 7 and 8, and the callers 0301234, 0309999, 0305555 and 0401
abbrev pub billing : Device
billing = 1100

abbrev pub claims : Device
claims = 1110

abbrev pub first_station : Device
first_station = 1201

abbrev pub second_station : Device
second_station = 1202

abbrev pub third_station : Device
third_station = 1203

abbrev pub ana : Agent
ana = 17

abbrev pub ben : Agent
ben = 18

abbrev pub caller : Device
caller = 10301234

abbrev pub second_caller : Device
second_caller = 10309999

abbrev pub third_caller : Device
third_caller = 10305555

abbrev pub late_caller : Device
late_caller = 10401

-- the numbers are those of the digits
abbrev pub NumbersOfDigits : Type 0
NumbersOfDigits =
    (read_id 15 (codes "100") ≡ Ok billing) × (read_id 15 (codes "110") ≡ Ok claims)
    × (read_id 15 (codes "201") ≡ Ok first_station) × (read_id 15 (codes "202") ≡ Ok second_station) × (read_id 15 (codes "203") ≡ Ok third_station)
    × (read_id 9 (codes "7") ≡ Ok ana) × (read_id 9 (codes "8") ≡ Ok ben) × (read_id 15 (codes "0301234") ≡ Ok caller)
    × (read_id 15 (codes "0309999") ≡ Ok second_caller) × (read_id 15 (codes "0305555") ≡ Ok third_caller) × (read_id 15 (codes "0401") ≡ Ok late_caller)

abbrev pub at : Moment → Command → TimedCommand
at moment command = record { moment = moment; command = command }

-- an agent logs on at a station in a group, and asks for another state
abbrev pub logs_on : Moment → Agent → Device → Device → TimedCommand
logs_on moment agent station group = at moment (SetAgentState agent (LoggedOn station (group ∷ [])))

abbrev pub asks_for : Moment → Agent → Pending → TimedCommand
asks_for moment agent wanted = at moment (SetAgentState agent (State wanted))

-- Billing rings for 20 seconds and wraps up for 30; Ana and Ben are its agents to be
abbrev pub plan : List TimedCommand
plan =
    at 0 (AddGroup billing (codes "Billing") 20 30)
    ∷ at 0 (AddStation first_station) ∷ at 0 (AddStation second_station)
    ∷ at 0 (AddAgent ana (codes "Ana")) ∷ at 0 (AddAgent ben (codes "Ben")) ∷ []

-- the state that a run leaves after another run
abbrev pub run_after : List TimedCommand → List TimedCommand → AfterRun
run_after before commands = run (run (empty_rows greatest_limits) before).rows commands

abbrev pub event : EventNumber → Moment → Report → Event
event number moment report = record { number = number; moment = moment; report = report }

abbrev pub figures_in : Rows → Device → Option Figures
figures_in s group = option_map (λ (g : GroupRecord). g.figures) (group_of s group)

-- what the plan's records are; what an example says of another is how it differs from one of these
abbrev pub planned_billing : GroupRecord
planned_billing = record { device = billing; name = codes "Billing"; ring = 20; wrap = 30; priority = 0; figures = no_figures }

abbrev pub planned_ana : AgentRecord
planned_ana = record { agent = ana; name = codes "Ana"; state = Null; pending = None; station = None; groups = []; stamp = 4; since = 0 }

abbrev pub planned_ben : AgentRecord
planned_ben = record planned_ana { agent = ben; name = codes "Ben"; stamp = 5 }

-- an agent who logged on at a moment, at a station and in Billing, and one who logged off
abbrev pub logged_on : Moment → Device → AgentRecord → AgentRecord
logged_on moment station agent = record agent { state = NotReady; station = Some station; groups = billing ∷ []; since = moment }

abbrev pub logged_off : AgentRecord → AgentRecord
logged_off agent = record agent { state = Null; station = None; groups = [] }

-- Ana and Ben log on at 5, before the first call
abbrev pub early_ana : AgentRecord
early_ana = record (logged_on 5 first_station planned_ana) { stamp = 6 }

abbrev pub early_ben : AgentRecord
early_ben = record (logged_on 5 second_station planned_ben) { stamp = 7 }

-- the first call, and Ana, who logs on at 15, as it is offered to her
abbrev pub first_call : CallRecord
first_call = record { call = 1; caller = caller; called = billing; since = 10 }

abbrev pub offered_ana : AgentRecord
offered_ana = record (logged_on 15 first_station planned_ana) { state = Ready; stamp = 8; since = 18 }

abbrev pub offered_connection : ConnectionRecord
offered_connection = record { call = 1; device = first_station; state = Alerting; group = Some billing; place = Some 6; queued = Some 10; offered = Some 18 }

abbrev pub answered_connection : ConnectionRecord
answered_connection = record offered_connection { state = Connected; place = None; queued = None; offered = None }

-- the first call arrives at the group
abbrev pub call_arrives : List TimedCommand
call_arrives = at 10 (ArriveCall caller billing) ∷ []

-- Ana logs on and becomes ready
abbrev pub ana_becomes_ready : List TimedCommand
ana_becomes_ready = at 15 (SetAgentState ana (LoggedOn first_station (billing ∷ []))) ∷ at 18 (SetAgentState ana (State pending.Ready)) ∷ []

-- up to the offer, and up to the answer
abbrev pub offered : List TimedCommand
offered = plan ++ call_arrives ++ ana_becomes_ready

abbrev pub answered : List TimedCommand
answered = offered ++ at 25 (AnswerCall 1 first_station) ∷ []
