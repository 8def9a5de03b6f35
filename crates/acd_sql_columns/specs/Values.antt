-- The values of columns, and the meaning of each: in its range, and whatever it holds.
use Rattle.std.specs.Prelude.{ℕ, zero, suc, pos, ◌==◌, List, [], ◌∷◌, nat_le, Bool, true, false, ◌||◌, Option, None, Some, option_map, if◌then◌else◌}
use Rattle.std.specs.Result.{result_ok}
use Rattle.std.specs.Str.{is_utf8}
use Rattle.sqlite_value.specs.declared.value.Value.{Value}
use Rattle.sqlite_value.specs.declared.value.Value.TheVariants.{Null, Int, Text}
use Rattle.sqlite_value.specs.Order.{Row, column}
use Rattle.acd_terms.specs.Forms.{device_digits, agent_digits, id_with, read_text, is_name_byte, number_between}
use Rattle.acd_terms.specs.declared.event.Cause.{Cause}
use Rattle.acd_terms.specs.declared.event.EventKind.{EventKind}
use Rattle.acd_terms.specs.declared.state.AgentState.{AgentState}
use Rattle.acd_terms.specs.declared.state.Pending.{Pending}
use Rattle.acd_terms.specs.declared.state.ConnectionState.{ConnectionState}
use Rattle.acd_sql_columns.specs.Codes.{agent_state_of, pending_of, connection_state_of, event_kind_of, cause_of}

-- ---- whatever a value holds

abbrev pub id_value : ℕ → Value
id_value n = Int (pos n)

-- so many columns of a row, from one on
abbrev pub cells : ℕ → ℕ → Row → Row
cells start zero r = []
cells start (suc k) r = column r start ∷ cells (suc start) k r

abbrev pub is_null_value : Value → Bool
is_null_value Null = true
is_null_value _ = false

-- a number, and none in place of another value
abbrev pub option_in : Value → Option ℕ
option_in (Int (pos n)) = Some n
option_in _ = None

-- a number, and 0 in place of another value
abbrev pub number_or_zero : Value → ℕ
number_or_zero (Int (pos n)) = n
number_or_zero _ = 0

abbrev pub text_value : Value → Option (List ℕ)
text_value (Text t) = Some t
text_value _ = None

-- a text, and none of its bytes in place of another value
abbrev pub text_or_empty : Value → List ℕ
text_or_empty (Text t) = t
text_or_empty _ = []

-- ---- values in their ranges

-- a value that is out of its range ends the reading
infixl 10 ◌>>=◌
abbrev pub ◌>>=◌ : {A B : Type 0} → Option A → (A → Option B) → Option B
(Some x) >>= f = f x
None >>= f = None

abbrev pub text_at : Row → ℕ → Option (List ℕ)
text_at r at = text_value (column r at)

-- a number from 0
abbrev pub whole_at : Row → ℕ → Option ℕ
whole_at r at = option_in (column r at)

abbrev pub at_least : ℕ → ℕ → Option ℕ
at_least least n = if nat_le least n then Some n else None

-- a stamp, a place or the number of an event
unfoldable pub stamp_at : Row → ℕ → Option ℕ
stamp_at r at = whole_at r at >>= at_least 1

-- a call or a monitor
unfoldable pub serial_at : Row → ℕ → Option ℕ
serial_at r at = whole_at r at >>= number_between 1 1000000000

unfoldable pub moment_at : Row → ℕ → Option ℕ
moment_at r at = whole_at r at >>= number_between 0 4294967295

unfoldable pub seconds_at : Row → ℕ → Option ℕ
seconds_at r at = whole_at r at >>= number_between 0 3600

-- one that isn't 0
unfoldable pub priority_at : Row → ℕ → Option ℕ
priority_at r at = whole_at r at >>= number_between 1 9

unfoldable pub device_at : Row → ℕ → Option ℕ
device_at r at = whole_at r at >>= id_with device_digits

unfoldable pub agent_value_at : Row → ℕ → Option ℕ
agent_value_at r at = whole_at r at >>= id_with agent_digits

unfoldable pub name_at : Row → ℕ → Option (List ℕ)
name_at r at = text_at r at >>= (λ t. result_ok (read_text is_name_byte 40 t))

unfoldable pub agent_state_at : Row → ℕ → Option AgentState
agent_state_at r at = whole_at r at >>= agent_state_of

unfoldable pub pending_at : Row → ℕ → Option Pending
pending_at r at = whole_at r at >>= pending_of

unfoldable pub cause_at : Row → ℕ → Option Cause
cause_at r at = whole_at r at >>= cause_of

unfoldable pub kind_at : Row → ℕ → Option EventKind
kind_at r at = whole_at r at >>= event_kind_of

unfoldable pub status_at : Row → ℕ → Option ℕ
status_at r at = whole_at r at >>= (λ n. if n == 200 || n == 409 then Some n else None)

abbrev pub utf8_of : List ℕ → Option (List ℕ)
utf8_of t = if is_utf8 t then Some t else None

-- a text in UTF-8
unfoldable pub body_at : Row → ℕ → Option (List ℕ)
body_at r at = text_at r at >>= utf8_of

unfoldable pub connection_state_at : Row → ℕ → Option ConnectionState
connection_state_at r at = whole_at r at >>= connection_state_of

-- nothing, where the column is NULL
abbrev pub or_none : {A : Type 0} → (Row → ℕ → Option A) → Row → ℕ → Option (Option A)
or_none read r at = if is_null_value (column r at) then Some None else option_map Some (read r at)
