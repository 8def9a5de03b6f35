-- A read of a column gives the value that was written there, and so does the value shown of it.
use Rattle.std.proofs.Common.{◌≡◌, ℕ, Some, None, refl, ap, ◌∙◌}
use Rattle.sqlite_value.specs.declared.value.Value.TheVariants.{Null}
use Rattle.sqlite_rules.specs.Cast.{cast}
use Rattle.sqlite_value.specs.Order.{Row, column}
use Rattle.acd_sql_columns.proofs.Rows.CodeLaws.{agent_state_back, pending_back, kind_back, cause_back, connection_state_back}
use Rattle.acd_sql_columns.proofs.Rows.ValuesInRange.{whole_stored, stamp_stored, serial_stored, moment_stored, seconds_stored, priority_stored, device_stored, agent_id_stored, name_stored, agent_state_stored, pending_stored, kind_stored, cause_stored, connection_state_stored, or_none_stored}
use Rattle.acd_sql_columns.specs.Sorts.{Sort, whole, stamp, serial, moment, seconds, priority, device, agent, name, agent_state, pending, kind, cause, connection_state, Column, sure, maybe, Of, Means, value_of, value, read_of, read_at, shown_of, shown_or_none, shown, type_of, type_in}
use Rattle.acd_sql_columns.specs.Codes.{agent_code, pending_code, kind_code, cause_code, connection_code}
use Rattle.acd_sql_columns.proofs.Writes.Common.{cast_id, cast_null}

sort_stored : (s : Sort) (r : Row) (at : ℕ) (x : Of s) → read_of s r at ≡ Some x → column r at ≡ value_of s x
sort_stored whole r at x h = whole_stored r at x h
sort_stored stamp r at x h = stamp_stored r at x h
sort_stored serial r at x h = serial_stored r at x h
sort_stored moment r at x h = moment_stored r at x h
sort_stored seconds r at x h = seconds_stored r at x h
sort_stored priority r at x h = priority_stored r at x h
sort_stored device r at x h = device_stored r at x h
sort_stored agent r at x h = agent_id_stored r at x h
sort_stored name r at x h = name_stored r at x h
sort_stored agent_state r at x h = agent_state_stored r at x h
sort_stored pending r at x h = pending_stored r at x h
sort_stored kind r at x h = kind_stored r at x h
sort_stored cause r at x h = cause_stored r at x h
sort_stored connection_state r at x h = connection_state_stored r at x h

pub stored : (c : Column) (r : Row) (at : ℕ) (x : Means c) → read_at c r at ≡ Some x → column r at ≡ value c x
stored (sure s) r at x h = sort_stored s r at x h
stored (maybe s) r at x h = or_none_stored r at (read_of s) (value_of s) (sort_stored s r at) x h

sort_back : (s : Sort) (x : Of s) → shown_of s (value_of s x) ≡ x
sort_back whole x = refl
sort_back stamp x = refl
sort_back serial x = refl
sort_back moment x = refl
sort_back seconds x = refl
sort_back priority x = refl
sort_back device x = refl
sort_back agent x = refl
sort_back name x = refl
sort_back agent_state x = rw (agent_state_back x) refl
sort_back pending x = rw (pending_back x) refl
sort_back kind x = rw (kind_back x) refl
sort_back cause x = rw (cause_back x) refl
sort_back connection_state x = rw (connection_state_back x) refl

-- of a value, which isn't NULL
some_shown : (s : Sort) (x : Of s) → shown_or_none s (value_of s x) ≡ Some (shown_of s (value_of s x))
some_shown whole x = refl
some_shown stamp x = refl
some_shown serial x = refl
some_shown moment x = refl
some_shown seconds x = refl
some_shown priority x = refl
some_shown device x = refl
some_shown agent x = refl
some_shown name x = refl
some_shown agent_state x = refl
some_shown pending x = refl
some_shown kind x = refl
some_shown cause x = refl
some_shown connection_state x = refl

pub back : (c : Column) (x : Means c) → shown c (value c x) ≡ x
back (sure s) x = sort_back s x
back (maybe s) None = refl
back (maybe s) (Some x) = some_shown s x ∙ ap Some (sort_back s x)

-- ---- a column takes its values as they are

sort_cast : (s : Sort) (x : Of s) → cast (type_of s) (value_of s x) ≡ value_of s x
sort_cast whole x = cast_id x
sort_cast stamp x = cast_id x
sort_cast serial x = cast_id x
sort_cast moment x = cast_id x
sort_cast seconds x = cast_id x
sort_cast priority x = cast_id x
sort_cast device x = cast_id x
sort_cast agent x = cast_id x
sort_cast name x = refl
sort_cast agent_state x = cast_id (agent_code x)
sort_cast pending x = cast_id (pending_code x)
sort_cast kind x = cast_id (kind_code x)
sort_cast cause x = cast_id (cause_code x)
sort_cast connection_state x = cast_id (connection_code x)

null_cast : (s : Sort) → cast (type_of s) Null ≡ Null
null_cast name = refl
null_cast whole = cast_null
null_cast stamp = cast_null
null_cast serial = cast_null
null_cast moment = cast_null
null_cast seconds = cast_null
null_cast priority = cast_null
null_cast device = cast_null
null_cast agent = cast_null
null_cast agent_state = cast_null
null_cast pending = cast_null
null_cast kind = cast_null
null_cast cause = cast_null
null_cast connection_state = cast_null

pub null_casts : (c : Column) → cast (type_in c) Null ≡ Null
null_casts (sure s) = null_cast s
null_casts (maybe s) = null_cast s

pub casts : (c : Column) (x : Means c) → cast (type_in c) (value c x) ≡ value c x
casts (sure s) x = sort_cast s x
casts (maybe s) None = null_cast s
casts (maybe s) (Some x) = sort_cast s x
