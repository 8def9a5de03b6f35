-- The names of events and causes.
use Rattle.std.specs.Prelude.{ℕ, List, codes}
use Rattle.acd_terms.specs.declared.event.Cause.{Cause}
use Rattle.acd_terms.specs.declared.event.Cause.TheVariants as cause
use Rattle.acd_terms.specs.declared.event.EventKind.{EventKind}
use Rattle.acd_terms.specs.declared.event.EventKind.TheVariants as kind

abbrev pub kind_name : EventKind → List ℕ
kind_name kind.ServiceInitiated = codes "serviceInitiated"
kind_name kind.Originated = codes "originated"
kind_name kind.Queued = codes "queued"
kind_name kind.Delivered = codes "delivered"
kind_name kind.Diverted = codes "diverted"
kind_name kind.Established = codes "established"
kind_name kind.Held = codes "held"
kind_name kind.Retrieved = codes "retrieved"
kind_name kind.Transferred = codes "transferred"
kind_name kind.Failed = codes "failed"
kind_name kind.ConnectionCleared = codes "connectionCleared"
kind_name kind.CallCleared = codes "callCleared"
kind_name kind.AgentLoggedOn = codes "agentLoggedOn"
kind_name kind.AgentLoggedOff = codes "agentLoggedOff"
kind_name kind.AgentNotReady = codes "agentNotReady"
kind_name kind.AgentReady = codes "agentReady"
kind_name kind.AgentBusy = codes "agentBusy"
kind_name kind.AgentWorkingAfterCall = codes "agentWorkingAfterCall"

abbrev pub cause_name : Cause → List ℕ
cause_name cause.NewCall = codes "newCall"
cause_name cause.Distributed = codes "distributed"
cause_name cause.Deflected = codes "deflected"
cause_name cause.Transferred = codes "transferred"
cause_name cause.NoAnswer = codes "noAnswer"
cause_name cause.Busy = codes "busy"
