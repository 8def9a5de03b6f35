-- Worked examples: each refusal of each service, in the order in which they are tested: where two could be answered, the first one is.
use Rattle.std.specs.Prelude.{◌≡◌, List, [], ◌∷◌, ◌++◌, map, codes}
use Rattle.acd_terms.specs.Rows.{empty_rows}
use Rattle.acd_terms.specs.Numbers.{Device, Agent}
use Rattle.acd_terms.specs.declared.rows.Limits.{Limits}
use Rattle.acd_terms.specs.declared.rows.Rows.{Rows}
use Rattle.acd_terms.specs.declared.command.Command.{Command}
use Rattle.acd_terms.specs.declared.command.Command.TheVariants.{AddGroup, AddStation, AddAgent, ArriveCall, MakeCall, PhoneOffHook, AnswerCall, HoldCall, RetrieveCall, ClearConnection, DeflectCall, SingleStepTransfer, SetAgentState, SetGroupPriority, MonitorStart, MonitorStop}
use Rattle.acd_terms.specs.declared.command.Requested.TheVariants.{LoggedOn, State}
use Rattle.acd_terms.specs.declared.state.Pending.TheVariants as pending
use Rattle.acd_terms.specs.declared.answer.Outcome.TheVariants.{Refused}
use Rattle.acd_terms.specs.declared.answer.Refusal.{Refusal}
use Rattle.acd_terms.specs.declared.answer.Refusal.TheVariants.{UnknownDevice, UnknownAgent, UnknownCall, UnknownConnection, WrongConnectionState, WrongAgentState, DeviceExists, AgentExists, NotStation, NotGroup, DestinationBusy, SameDevice, StationTaken, StationBusy, TooManyCalls, PlanFull, UnknownMonitor, CallerPlanned}
use Rattle.acd_model.specs.Run.{TimedCommand, run}
use Rattle.acd_model.specs.Examples.Words.{billing, claims, first_station, second_station, third_station, ana, ben, caller, second_caller, late_caller, at, plan, run_after, offered, answered}

-- commands, one after the other, with the refusal of each
abbrev pub RefusesEach : Rows → List (Command × Refusal) → Type 0
RefusesEach s cases =
    (run s (map (λ (c : Command × Refusal). at 50 c.0) cases)).outcomes ≡ map (λ (c : Command × Refusal). Refused c.1) cases

abbrev pub rows_after : List TimedCommand → Rows
rows_after commands = (run_after [] commands).rows

-- a number that isn't planned, and an agent that isn't
abbrev pub nowhere : Device
nowhere = 1999

abbrev pub nobody : Agent
nobody = 19

-- a number between those of a group and a station that isn't planned
abbrev pub unplanned : Device
unplanned = 1150

-- just as many places as the scene takes
abbrev pub few : Limits
few = record { requests = 100; calls = 1; groups = 1; stations = 2; agents = 2; monitors = 1 }

abbrev pub RefusalsOfPlanAndCalls : Type 0
RefusalsOfPlanAndCalls =
    RefusesEach (run (empty_rows few) (answered ++ at 30 (MonitorStart first_station) ∷ [])).rows (
    (AddGroup billing (codes "Again") 0 0, DeviceExists) ∷ (AddGroup first_station (codes "Again") 0 0, DeviceExists)
    ∷ (AddGroup caller (codes "Caller") 0 0, DeviceExists) ∷ (AddGroup claims (codes "Claims") 0 0, PlanFull)
    ∷ (SetGroupPriority nowhere 1, UnknownDevice) ∷ (SetGroupPriority caller 1, UnknownDevice) ∷ (SetGroupPriority first_station 1, NotGroup)
    ∷ (AddStation billing, DeviceExists) ∷ (AddStation first_station, DeviceExists) ∷ (AddStation caller, DeviceExists) ∷ (AddStation third_station, PlanFull)
    ∷ (AddAgent ana (codes "Ana"), AgentExists) ∷ (AddAgent nobody (codes "Cid"), PlanFull)
    ∷ (ArriveCall first_station nowhere, CallerPlanned) ∷ (ArriveCall billing billing, CallerPlanned)
    ∷ (ArriveCall second_caller nowhere, UnknownDevice) ∷ (ArriveCall second_caller second_caller, UnknownDevice) ∷ (ArriveCall second_caller billing, TooManyCalls)
    ∷ (MakeCall nowhere nowhere, UnknownDevice) ∷ (MakeCall billing nowhere, NotStation) ∷ (MakeCall first_station nowhere, UnknownDevice)
    ∷ (MakeCall first_station first_station, SameDevice) ∷ (MakeCall first_station second_station, StationBusy) ∷ (MakeCall second_station first_station, TooManyCalls)
    ∷ (MonitorStart nowhere, UnknownDevice) ∷ (MonitorStart caller, UnknownDevice) ∷ (MonitorStart second_station, PlanFull)
    ∷ (MonitorStop 2, UnknownMonitor) ∷ [])

-- connected at the station, and its other party is the external caller; the second station has another call
abbrev pub RefusalsOfAnAnsweredCall : Type 0
RefusalsOfAnAnsweredCall =
    RefusesEach (rows_after (answered ++ at 30 (MakeCall second_station billing) ∷ [])) (
    (PhoneOffHook 9 nowhere, UnknownCall) ∷ (PhoneOffHook 1 second_station, UnknownConnection) ∷ (PhoneOffHook 1 first_station, WrongConnectionState)
    ∷ (AnswerCall 9 nowhere, UnknownCall) ∷ (AnswerCall 1 second_station, UnknownConnection) ∷ (AnswerCall 1 first_station, WrongConnectionState)
    ∷ (HoldCall 9 nowhere, UnknownCall) ∷ (HoldCall 1 billing, UnknownConnection) ∷ (HoldCall 1 caller, NotStation)
    ∷ (RetrieveCall 9 nowhere, UnknownCall) ∷ (RetrieveCall 1 second_station, UnknownConnection) ∷ (RetrieveCall 1 first_station, WrongConnectionState)
    ∷ (ClearConnection 9 nowhere, UnknownCall) ∷ (ClearConnection 1 second_station, UnknownConnection)
    ∷ (DeflectCall 9 nowhere nowhere, UnknownCall) ∷ (DeflectCall 1 second_station nowhere, UnknownConnection) ∷ (DeflectCall 1 first_station nowhere, WrongConnectionState)
    ∷ (SingleStepTransfer 9 nowhere nowhere, UnknownCall) ∷ (SingleStepTransfer 1 billing nowhere, UnknownConnection)
    ∷ (SingleStepTransfer 1 caller nowhere, NotStation) ∷ (SingleStepTransfer 1 first_station nowhere, UnknownDevice)
    ∷ (SingleStepTransfer 1 first_station caller, UnknownDevice) ∷ (SingleStepTransfer 1 first_station first_station, SameDevice)
    ∷ (SingleStepTransfer 1 first_station second_station, DestinationBusy) ∷ [])

-- on hold at the station, which isn't idle
abbrev pub RefusalsOfAHeldCall : Type 0
RefusalsOfAHeldCall =
    RefusesEach (rows_after (answered ++ at 30 (HoldCall 1 first_station) ∷ at 31 (MakeCall second_station billing) ∷ [])) (
    (HoldCall 1 first_station, WrongConnectionState) ∷ (SingleStepTransfer 1 first_station nowhere, WrongConnectionState)
    ∷ (DeflectCall 1 first_station nowhere, WrongConnectionState) ∷ [])

-- alerting at the station; the second station calls it
abbrev pub RefusalsOfAnOfferedCall : Type 0
RefusalsOfAnOfferedCall =
    RefusesEach (rows_after (offered ++ at 30 (MakeCall second_station first_station) ∷ [])) (
    (HoldCall 1 first_station, WrongConnectionState) ∷ (RetrieveCall 1 first_station, WrongConnectionState)
    ∷ (SingleStepTransfer 1 first_station nowhere, WrongConnectionState)
    ∷ (DeflectCall 1 first_station caller, UnknownDevice) ∷ (DeflectCall 1 first_station first_station, SameDevice)
    ∷ (DeflectCall 1 first_station second_station, DestinationBusy)
    ∷ (AnswerCall 2 second_station, WrongConnectionState) ∷ (SingleStepTransfer 2 second_station nowhere, WrongConnectionState) ∷ [])

-- the other party rings, waits or has failed: a transfer wants it connected or on hold, and a failed connection is only cleared
abbrev pub RefusalsOfAnUnansweredCall : Type 0
RefusalsOfAnUnansweredCall =
    RefusesEach (rows_after (plan ++ at 10 (MakeCall first_station second_station) ∷ at 11 (PhoneOffHook 1 first_station) ∷ [])) (
    (PhoneOffHook 1 first_station, WrongConnectionState) ∷ (SingleStepTransfer 1 first_station nowhere, WrongConnectionState) ∷ [])
    × RefusesEach (rows_after (plan ++ at 10 (MakeCall first_station billing) ∷ at 11 (PhoneOffHook 1 first_station) ∷ [])) (
    (SingleStepTransfer 1 first_station nowhere, WrongConnectionState) ∷ (AnswerCall 1 billing, WrongConnectionState)
    ∷ (DeflectCall 1 billing billing, SameDevice) ∷ [])
    × RefusesEach (rows_after (answered ++ at 30 (ArriveCall late_caller first_station) ∷ [])) (
    (AnswerCall 2 first_station, WrongConnectionState) ∷ (HoldCall 2 first_station, WrongConnectionState)
    ∷ (DeflectCall 2 first_station nowhere, WrongConnectionState) ∷ (SingleStepTransfer 2 first_station nowhere, WrongConnectionState) ∷ [])

abbrev pub RefusalsOfAgents : Type 0
RefusalsOfAgents =
    RefusesEach (rows_after answered) (
    (SetAgentState nobody (State pending.Ready), UnknownAgent) ∷ (SetAgentState nobody (LoggedOn nowhere (nowhere ∷ [])), UnknownAgent)
    ∷ (SetAgentState ben (State pending.Ready), WrongAgentState) ∷ (SetAgentState ben (State pending.NotReady), WrongAgentState)
    ∷ (SetAgentState ben (State pending.WorkingAfterCall), WrongAgentState) ∷ (SetAgentState ben (State pending.LoggedOff), WrongAgentState)
    ∷ (SetAgentState ana (LoggedOn nowhere (nowhere ∷ [])), WrongAgentState)
    ∷ (SetAgentState ben (LoggedOn nowhere (nowhere ∷ [])), UnknownDevice) ∷ (SetAgentState ben (LoggedOn billing (nowhere ∷ [])), NotStation)
    ∷ (SetAgentState ben (LoggedOn first_station (nowhere ∷ [])), StationTaken) ∷ (SetAgentState ben (LoggedOn second_station (nowhere ∷ [])), UnknownDevice)
    ∷ (SetAgentState ben (LoggedOn second_station (first_station ∷ [])), NotGroup)
    -- of several groups in ascending number: of each first that it is planned
    ∷ (SetAgentState ben (LoggedOn second_station (billing ∷ first_station ∷ nowhere ∷ [])), NotGroup)
    ∷ (SetAgentState ben (LoggedOn second_station (billing ∷ unplanned ∷ first_station ∷ [])), UnknownDevice)
    ∷ (SetAgentState ben (LoggedOn second_station (unplanned ∷ first_station ∷ nowhere ∷ [])), UnknownDevice) ∷ [])
