-- The meaning of columns: of each sort the value that is kept, and how it is read.
use Rattle.std.specs.Prelude.{ℕ, List, Bool, true, false, Option, None, Some}
use Rattle.std.specs.Option.{unwrap_or}
use Rattle.sqlite_value.specs.declared.value.Value.{Value}
use Rattle.sqlite_value.specs.declared.value.Value.TheVariants.{Null, Text}
use Rattle.sqlite_value.specs.Order.{Row}
use Rattle.sqlite_schema.specs.declared.schema.Kind.{Kind}
use Rattle.sqlite_schema.specs.declared.schema.Kind.TheVariants as type
use Rattle.sqlite.specs.Values.{or_null}
use Rattle.acd_terms.specs.declared.state.AgentState.{AgentState}
use Rattle.acd_terms.specs.declared.state.AgentState.TheVariants.{Null as NoState}
use Rattle.acd_terms.specs.declared.state.Pending.{Pending}
use Rattle.acd_terms.specs.declared.state.Pending.TheVariants.{LoggedOff}
use Rattle.acd_terms.specs.declared.event.EventKind.{EventKind}
use Rattle.acd_terms.specs.declared.event.EventKind.TheVariants.{ServiceInitiated}
use Rattle.acd_terms.specs.declared.event.Cause.{Cause}
use Rattle.acd_terms.specs.declared.event.Cause.TheVariants.{NewCall}
use Rattle.acd_terms.specs.declared.state.ConnectionState.{ConnectionState}
use Rattle.acd_terms.specs.declared.state.ConnectionState.TheVariants.{Initiated}
use Rattle.acd_sql_columns.specs.Codes.{agent_code, pending_code, kind_code, cause_code, connection_code, agent_state_of, pending_of, event_kind_of, cause_of, connection_state_of}
use Rattle.acd_sql_columns.specs.Values.{id_value, number_or_zero, text_or_empty, whole_at, stamp_at, serial_at, moment_at, seconds_at, priority_at, device_at, agent_value_at, name_at, agent_state_at, pending_at, kind_at, cause_at, connection_state_at, or_none}

pub data Sort : Type 0 where
  whole : Sort
  stamp : Sort
  serial : Sort
  moment : Sort
  seconds : Sort
  priority : Sort
  device : Sort
  agent : Sort
  name : Sort
  agent_state : Sort
  pending : Sort
  kind : Sort
  cause : Sort
  connection_state : Sort

-- a column of a sort, where each row has a value, or where it may be NULL
pub data Column : Type 0 where
  sure : Sort → Column
  maybe : Sort → Column

-- the meaning of a value of the sort
abbrev pub Of : Sort → Type 0
Of name = List ℕ
Of agent_state = AgentState
Of pending = Pending
Of kind = EventKind
Of cause = Cause
Of connection_state = ConnectionState
Of _ = ℕ

abbrev pub Means : Column → Type 0
Means (sure s) = Of s
Means (maybe s) = Option (Of s)

-- ---- what is kept

abbrev pub value_of : (s : Sort) → Of s → Value
value_of whole n = id_value n
value_of stamp n = id_value n
value_of serial n = id_value n
value_of moment n = id_value n
value_of seconds n = id_value n
value_of priority n = id_value n
value_of device n = id_value n
value_of agent n = id_value n
value_of name t = Text t
value_of agent_state s = id_value (agent_code s)
value_of pending p = id_value (pending_code p)
value_of kind k = id_value (kind_code k)
value_of cause w = id_value (cause_code w)
value_of connection_state s = id_value (connection_code s)

abbrev pub value : (c : Column) → Means c → Value
value (sure s) x = value_of s x
value (maybe s) o = or_null (value_of s) o

-- ---- what is read, where it is in its range

abbrev pub read_of : (s : Sort) → Row → ℕ → Option (Of s)
read_of whole r at = whole_at r at
read_of stamp r at = stamp_at r at
read_of serial r at = serial_at r at
read_of moment r at = moment_at r at
read_of seconds r at = seconds_at r at
read_of priority r at = priority_at r at
read_of device r at = device_at r at
read_of agent r at = agent_value_at r at
read_of name r at = name_at r at
read_of agent_state r at = agent_state_at r at
read_of pending r at = pending_at r at
read_of kind r at = kind_at r at
read_of cause r at = cause_at r at
read_of connection_state r at = connection_state_at r at

abbrev pub read_at : (c : Column) → Row → ℕ → Option (Means c)
read_at (sure s) r at = read_of s r at
read_at (maybe s) r at = or_none (read_of s) r at

-- ---- the value shown, whatever the column holds: one of another kind, and a code that nothing has, mean some fixed value

abbrev pub shown_of : (s : Sort) → Value → Of s
shown_of whole v = number_or_zero v
shown_of stamp v = number_or_zero v
shown_of serial v = number_or_zero v
shown_of moment v = number_or_zero v
shown_of seconds v = number_or_zero v
shown_of priority v = number_or_zero v
shown_of device v = number_or_zero v
shown_of agent v = number_or_zero v
shown_of name v = text_or_empty v
shown_of agent_state v = unwrap_or (agent_state_of (number_or_zero v)) NoState
shown_of pending v = unwrap_or (pending_of (number_or_zero v)) LoggedOff
shown_of kind v = unwrap_or (event_kind_of (number_or_zero v)) ServiceInitiated
shown_of cause v = unwrap_or (cause_of (number_or_zero v)) NewCall
shown_of connection_state v = unwrap_or (connection_state_of (number_or_zero v)) Initiated

abbrev pub shown_or_none : (s : Sort) → Value → Option (Of s)
shown_or_none s Null = None
shown_or_none s v = Some (shown_of s v)

abbrev pub shown : (c : Column) → Value → Means c
shown (sure s) v = shown_of s v
shown (maybe s) v = shown_or_none s v

-- ---- the types of columns

abbrev pub type_of : Sort → Kind
type_of name = type.Text
type_of _ = type.Integer

abbrev pub type_in : Column → Kind
type_in (sure s) = type_of s
type_in (maybe s) = type_of s

-- each row has a value in it
abbrev pub is_sure : Column → Bool
is_sure (sure s) = true
is_sure (maybe s) = false
