-- The codes and names of refusals.
use Rattle.std.specs.Prelude.{ℕ, List, codes}
use Rattle.acd_terms.specs.declared.answer.Refusal.{Refusal}
use Rattle.acd_terms.specs.declared.answer.Refusal.TheVariants.{UnknownDevice, UnknownAgent, UnknownCall, UnknownConnection, WrongConnectionState, WrongAgentState, DeviceExists, AgentExists, NotStation, NotGroup, DestinationBusy, SameDevice, StationTaken, StationBusy, TooManyCalls, PlanFull, UnknownMonitor, CallerPlanned}

abbrev pub refusal_code : Refusal → ℕ
refusal_code UnknownDevice = 1
refusal_code UnknownAgent = 2
refusal_code UnknownCall = 3
refusal_code UnknownConnection = 4
refusal_code WrongConnectionState = 5
refusal_code WrongAgentState = 6
refusal_code DeviceExists = 7
refusal_code AgentExists = 8
refusal_code NotStation = 9
refusal_code NotGroup = 10
refusal_code DestinationBusy = 11
refusal_code SameDevice = 12
refusal_code StationTaken = 13
refusal_code StationBusy = 14
refusal_code TooManyCalls = 15
refusal_code PlanFull = 16
refusal_code UnknownMonitor = 17
refusal_code CallerPlanned = 18

abbrev pub refusal_name : Refusal → List ℕ
refusal_name UnknownDevice = codes "unknownDevice"
refusal_name UnknownAgent = codes "unknownAgent"
refusal_name UnknownCall = codes "unknownCall"
refusal_name UnknownConnection = codes "unknownConnection"
refusal_name WrongConnectionState = codes "wrongConnectionState"
refusal_name WrongAgentState = codes "wrongAgentState"
refusal_name DeviceExists = codes "deviceExists"
refusal_name AgentExists = codes "agentExists"
refusal_name NotStation = codes "notStation"
refusal_name NotGroup = codes "notGroup"
refusal_name DestinationBusy = codes "destinationBusy"
refusal_name SameDevice = codes "sameDevice"
refusal_name StationTaken = codes "stationTaken"
refusal_name StationBusy = codes "stationBusy"
refusal_name TooManyCalls = codes "tooManyCalls"
refusal_name PlanFull = codes "planFull"
refusal_name UnknownMonitor = codes "unknownMonitor"
refusal_name CallerPlanned = codes "callerPlanned"
