-- Which columns each kind of report has: always, never, or in some reports.
use Rattle.std.specs.Prelude.{Bool, true, false, not, ◌&&◌, Option, None, Some, if◌then◌else◌}
use Rattle.std.specs.Option.{is_some}
use Rattle.acd_terms.specs.declared.event.EventKind.{EventKind}
use Rattle.acd_terms.specs.declared.event.EventKind.TheVariants as kind
use Rattle.acd_terms.specs.declared.event.Cause.{Cause}
use Rattle.acd_terms.specs.declared.event.Cause.TheVariants as cause
use Rattle.acd_terms.specs.declared.event.Columns.{Columns}
use Rattle.acd_terms.specs.declared.event.Report.{Report}
use Rattle.acd_sql_columns.specs.declared.shape.Presence.{Presence}
use Rattle.acd_sql_columns.specs.declared.shape.Presence.TheVariants.{Always, Sometimes, Never}
use Rattle.acd_sql_columns.specs.declared.shape.Shape.{Shape}
use Rattle.acd_sql_columns.specs.Decoding.{report_of}

-- a report of a call at a device
abbrev pub call_shape : Shape
call_shape = record { device = Always; call = Always; agent = Never; group = Never; to = Never; cause = Never; waited = Never }

-- a report of an agent at a station
abbrev pub agent_shape : Shape
agent_shape = record { device = Always; call = Never; agent = Always; group = Never; to = Never; cause = Never; waited = Never }

abbrev pub shape_of : EventKind → Shape
shape_of kind.ServiceInitiated = call_shape
shape_of kind.Originated = record call_shape { to = Always }
shape_of kind.Queued = record call_shape { cause = Always }
shape_of kind.Delivered = record call_shape { cause = Always; group = Sometimes }
shape_of kind.Diverted = record call_shape { to = Always; cause = Always; group = Sometimes }
shape_of kind.Established = record call_shape { group = Sometimes; waited = Sometimes }
shape_of kind.Held = call_shape
shape_of kind.Retrieved = call_shape
shape_of kind.Transferred = record call_shape { to = Always }
shape_of kind.Failed = record call_shape { cause = Always }
shape_of kind.ConnectionCleared = call_shape
shape_of kind.CallCleared = record call_shape { device = Never; group = Sometimes }
shape_of kind.AgentLoggedOn = record agent_shape { group = Sometimes }
shape_of kind.AgentLoggedOff = agent_shape
shape_of kind.AgentNotReady = agent_shape
shape_of kind.AgentReady = agent_shape
shape_of kind.AgentBusy = agent_shape
shape_of kind.AgentWorkingAfterCall = agent_shape

-- a column that is there or isn't
abbrev pub admits : Presence → Bool → Bool
admits Always there = there
admits Sometimes there = true
admits Never there = not there

-- the causes of a kind
abbrev pub has_cause : EventKind → Cause → Bool
has_cause kind.Queued cause.NewCall = true
has_cause kind.Queued cause.Deflected = true
has_cause kind.Queued cause.Transferred = true
has_cause kind.Queued cause.NoAnswer = true
has_cause kind.Delivered cause.NewCall = true
has_cause kind.Delivered cause.Distributed = true
has_cause kind.Delivered cause.Deflected = true
has_cause kind.Delivered cause.Transferred = true
has_cause kind.Diverted cause.Distributed = true
has_cause kind.Diverted cause.Deflected = true
has_cause kind.Diverted cause.NoAnswer = true
has_cause kind.Failed cause.Busy = true
has_cause _ _ = false

abbrev pub admits_cause : EventKind → Option Cause → Bool
admits_cause k None = true
admits_cause k (Some why) = has_cause k why

-- the seconds that a call waited come with the group in which it did
abbrev pub are_together : EventKind → Bool → Bool → Bool
are_together kind.Established group waited = if group then waited else not waited
are_together _ group waited = true

-- the device, the call and the agent are there or aren't, as the shape has it
abbrev pub has_parties : Shape → Columns → Bool
has_parties s c = admits s.device (is_some c.device) && admits s.call (is_some c.call) && admits s.agent (is_some c.agent)

-- and so are the group, the other device, the cause and the wait
abbrev pub has_columns : Shape → Columns → Bool
has_columns s c = has_parties s c && admits s.group (is_some c.group) && admits s.to (is_some c.to) && admits s.cause (is_some c.cause) && admits s.waited (is_some c.waited)

-- the columns are those of a report of their kind
unfoldable pub is_formed : Columns → Bool
is_formed c = has_columns (shape_of c.kind) c && admits_cause c.kind c.cause && are_together c.kind (is_some c.group) (is_some c.waited)

-- the report that has these columns
unfoldable pub report_in : Columns → Option Report
report_in c = if is_formed c then Some (report_of c) else None
