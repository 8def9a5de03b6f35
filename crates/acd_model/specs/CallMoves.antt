-- The moves of calls and connections.
use Rattle.std.specs.Prelude.{◌-◌, Bool, true, false, Option, Some, None, unwrap_or}
use Rattle.acd_terms.specs.Numbers.{Device, CallId, Moment, Stamp}
use Rattle.acd_terms.specs.declared.command.Turn.{Turn}
use Rattle.acd_terms.specs.declared.rows.Rows.{Rows}
use Rattle.acd_terms.specs.declared.record.CallRecord.{CallRecord}
use Rattle.acd_terms.specs.declared.record.ConnectionRecord.{ConnectionRecord}
use Rattle.acd_terms.specs.declared.state.ConnectionState.{ConnectionState}
use Rattle.acd_terms.specs.declared.state.ConnectionState.TheVariants.{Initiated, Alerting, Connected, Hold, Queued, Fail}
use Rattle.acd_terms.specs.declared.event.Cause.{Cause}
use Rattle.acd_terms.specs.declared.event.Cause.TheVariants.{Distributed, NoAnswer}
use Rattle.acd_terms.specs.declared.event.Waited.{Waited}
use Rattle.acd_terms.specs.declared.event.Report.{Report}
use Rattle.acd_terms.specs.declared.event.Report.TheVariants as report
use Rattle.acd_model.specs.Scans.{is_group, is_idle}
use Rattle.acd_model.specs.Moves.{silent, reported}
use Rattle.acd_model.specs.declared.moves.Move.{Move}
use Rattle.acd_model.specs.declared.moves.Change.TheVariants.{PutCall, PutConnection, RemoveCall, RemoveConnection}
use Rattle.acd_model.specs.declared.moves.Destination.{Destination}
use Rattle.acd_model.specs.declared.moves.Destination.TheVariants.{Queue, Idle, Busy}

-- a connection that no group offered
abbrev pub unqueued : CallId → Device → ConnectionState → ConnectionRecord
unqueued call device state = record { call = call; device = device; state = state; group = None; place = None; queued = None; offered = None }

-- a call in the queue of a group, at a place and since a moment
abbrev pub queueing : CallId → Device → Option Stamp → Option Moment → ConnectionRecord
queueing call group place since = record { call = call; device = group; state = Queued; group = Some group; place = place; queued = since; offered = None }

-- a call begins
abbrev pub begin : CallRecord → Move
begin c = silent (PutCall c)

-- the side of an external caller
abbrev pub connect_caller : CallId → Device → Move
connect_caller call caller = silent (PutConnection (unqueued call caller Connected))

abbrev pub initiate : CallId → Device → Move
initiate call station = reported (PutConnection (unqueued call station Initiated)) (report.ServiceInitiated call station)

abbrev pub originate : ConnectionRecord → Device → Move
originate x called = reported (PutConnection (record x { state = Connected })) (report.Originated x.call x.device called)

-- the destination of a call at a device
abbrev pub met_at : Bool → Bool → Destination
met_at true idle = Queue
met_at false true = Idle
met_at false false = Busy

abbrev pub destination_of : Rows → Device → Destination
destination_of s to = met_at (is_group s to) (is_idle s to)

-- the connection there: it enters the queue with the stamp as its place, alerts, or fails
abbrev pub arriving : Destination → Turn → CallId → Device → ConnectionRecord
arriving Queue turn call to = queueing call to (Some turn.stamp) (Some turn.moment)
arriving Idle turn call to = unqueued call to Alerting
arriving Busy turn call to = unqueued call to Fail

abbrev pub arrival : Destination → CallId → Device → Cause → Report
arrival Queue call to cause = report.Queued call to cause
arrival Idle call to cause = report.Delivered call to cause None
arrival Busy call to cause = report.Failed call to

-- the call comes to a destination
unfoldable pub arrive : Rows → Turn → CallId → Device → Cause → Move
arrive s turn call to cause = reported (PutConnection (arriving (destination_of s to) turn call to)) (arrival (destination_of s to) call to cause)

-- a connection once it is answered keeps its group alone
abbrev pub talking : ConnectionRecord → ConnectionRecord
talking x = record x { state = Connected; place = None; queued = None; offered = None }

-- the moment less the moment at which the call was queued, where it was distributed
abbrev pub waited_by : Moment → Option Moment → Option Device → Option Waited
waited_by moment queued None = None
waited_by moment queued (Some group) = Some (record { group = group; seconds = moment - unwrap_or queued 0 })

abbrev pub answer : Moment → ConnectionRecord → Move
answer moment x = reported (PutConnection (talking x)) (report.Established x.call x.device (waited_by moment x.queued x.group))

abbrev pub hold : ConnectionRecord → Move
hold x = reported (PutConnection (record x { state = Hold })) (report.Held x.call x.device)

abbrev pub retrieve : ConnectionRecord → Move
retrieve x = reported (PutConnection (record x { state = Connected })) (report.Retrieved x.call x.device)

-- the queued connection offered at a station, with its place and queued moment
abbrev pub ringing : Moment → ConnectionRecord → Device → ConnectionRecord
ringing moment x station = record x { device = station; state = Alerting; offered = Some moment }

abbrev pub offer : Moment → ConnectionRecord → Device → Move
offer moment x station = reported (PutConnection (ringing moment x station)) (report.Delivered x.call station Distributed x.group)

-- the offered call returns to its group, at its old place and queued moment
abbrev pub go_back : ConnectionRecord → Device → Move
go_back x group = reported (PutConnection (queueing x.call group x.place x.queued)) (report.Queued x.call group NoAnswer)

-- the connection ends, and its call is sent elsewhere
abbrev pub divert : ConnectionRecord → Device → Cause → Move
divert x to cause = reported (RemoveConnection x.call x.device) (report.Diverted x.call x.device to cause x.group)

abbrev pub transfer : ConnectionRecord → Device → Move
transfer x to = reported (RemoveConnection x.call x.device) (report.Transferred x.call x.device to)

-- the connection ends
abbrev pub clear : ConnectionRecord → Move
clear x = reported (RemoveConnection x.call x.device) (report.ConnectionCleared x.call x.device)

abbrev pub end_call : CallId → Option Device → Move
end_call call group = reported (RemoveCall call) (report.CallCleared call group)
