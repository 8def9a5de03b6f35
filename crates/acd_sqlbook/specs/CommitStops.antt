-- Why a part of a commit isn't written, inside a transaction that saw a content, on a connection without a limit of steps.
use Rattle.std.specs.Prelude.{◌≡◌, ◌⊎◌, ℕ, ◌≤◌, ◌∷◌, [], List, length, Bool, IsTrue, Option, None, Some, Result, IfErr, OnOk}
use Rattle.sqlite_trees.specs.declared.store.Store.{Ghosts}
use Rattle.sqlite.specs.declared.error.Error.{Error}
use Rattle.sqlite.specs.declared.transaction.Transaction.{Transaction}
use Rattle.sqlite.specs.Held.{Held, state}
use Rattle.sqlite.specs.State.{State, HasCleanDisk}
use Rattle.acd_terms.specs.Lists.{Every}
use Rattle.acd_terms.specs.declared.event.Event.{Event}
use Rattle.acd_terms.specs.declared.record.CallRecord.{CallRecord}
use Rattle.acd_terms.specs.declared.record.ConnectionRecord.{ConnectionRecord}
use Rattle.acd_terms.specs.declared.rows.Rows.{Rows}
use Rattle.acd_model.specs.declared.moves.Change.{Change}
use Rattle.acd_model.specs.declared.moves.Change.TheVariants.{Nothing, PutGroup, PutStation, PutAgent, PutCall, PutConnection, PutMonitor, RemoveCall, RemoveConnection, RemoveMonitor}
use Rattle.acd_book.specs.Content.{Content}
use Rattle.acd_book.specs.declared.kept.Kept.{Kept}
use Rattle.acd_sql_columns.specs.Transactions.{HoldsGood, HoldsContent, MetaFits}
use Rattle.acd_sql_columns.specs.Relations.{Relations, meta_of, relations_of}
use Rattle.acd_sql_columns.specs.Rows.{connection_values, kept_values, meta_shown}
use Rattle.acd_sql_columns.specs.Tables.{stations, calls, monitors}
use Rattle.acd_sql_columns.specs.Values.{id_value}
use Rattle.acd_sql_columns.specs.declared.meta.Meta.{Meta}
use Rattle.acd_sql_columns.specs.declared.texts.TheConstants.{DELETE_CALL, DELETE_CONNECTION, DELETE_MONITOR, INSERT_CONNECTION, INSERT_KEPT, UPDATE_CALL, UPDATE_META, UPDATE_MONITOR}
use Rattle.acd_sql_differences.specs.ChangeOrder.{rows_differences}
use Rattle.acd_sql_differences.specs.Transition.{AreWhole}
use Rattle.acd_sql_statements.specs.StoreFailures.{IsMemory, StoreHasFailed}
use Rattle.acd_sql_statements.specs.ReadFailures.{FailsToRead}
use Rattle.acd_sql_statements.specs.WriteRefusals.{HasWriteCause, RefusesOn, RefusesPut, RefusesPutConnection, RefusesGroup, RefusesAgent}
use Rattle.acd_sql_statements.specs.SeveralEvents.{RefusesEvents}
use Rattle.acd_sqlbook.specs.Counters.{StopsOn}
use Rattle.acd_sqlbook.specs.Lent.{Lent, Shown, state_before, state_after}
use Rattle.acd_sqlbook.specs.WriteChoice.{written_changes}
use Rattle.acd_sqlbook.specs.Commit.{ChangeFits, EventFits, KeptFits, meta_after, counters_after, applied, all_applied, with_events, with_kept}

-- no call that it has, and no call of its connections, is above this one
pub record AreUpTo (last : ℕ) (c : Content) : Type 0 where
  pub calls : Every (λ (k : CallRecord). k.call ≤ last) c.rows.calls
  pub connections : Every (λ (x : ConnectionRecord). x.call ≤ last) c.rows.connections

-- it has one above the last call's number, where that is known; above its last one no sound content has any
abbrev pub HasAbove : Option ℕ → Content → Type 0
HasAbove None c = ⊥
HasAbove (Some last) c = ¬ (AreUpTo last c)

-- on these relations the store refuses a statement of the change: it refuses a call or a connection to be inserted only where that has no row or, where `Meets`, may have one
abbrev pub RefusesChange : Type 0 → Change → Relations → Type 0
RefusesChange Meets Nothing r = ⊥
RefusesChange Meets (PutGroup g) r = RefusesGroup g None r
RefusesChange Meets (PutStation s) r = RefusesOn stations.insert (stations.values s) None r
RefusesChange Meets (PutAgent a) r = RefusesAgent a None r
RefusesChange Meets (PutCall k) r = RefusesPut calls UPDATE_CALL.now k None r ⊎ (Meets × RefusesOn calls.insert (calls.values k) None r)
RefusesChange Meets (PutConnection x) r = RefusesPutConnection x None r ⊎ (Meets × RefusesOn INSERT_CONNECTION.now (connection_values x) None r)
RefusesChange Meets (PutMonitor w) r = RefusesPut monitors UPDATE_MONITOR.now w None r
RefusesChange Meets (RemoveCall call) r = RefusesOn DELETE_CALL.now (id_value call ∷ []) None r
RefusesChange Meets (RemoveConnection call device) r = RefusesOn DELETE_CONNECTION.now (id_value call ∷ id_value device ∷ []) None r
RefusesChange Meets (RemoveMonitor monitor) r = RefusesOn DELETE_MONITOR.now (id_value monitor ∷ []) None r

-- a number of it doesn't fit its column or its range, or the store refuses it
abbrev pub StopsAtChange : Type 0 → Change → Content → Type 0
StopsAtChange Meets change c = (¬ (ChangeFits change)) ⊎ RefusesChange Meets change (relations_of c)

-- the same of a change that is inserted where it is new, and by an upsert where it isn't
abbrev pub RefusesWrite : Bool → Change → Content → Type 0
RefusesWrite is_new change c = RefusesChange (IsTrue is_new) change (relations_of c)

abbrev pub StopsWrite : Bool → Change → Content → Type 0
StopsWrite is_new change c = StopsAtChange (IsTrue is_new) change c

-- one of them, after those before it
abbrev pub StopsInChanges : Type 0 → List Change → Content → Type 0
StopsInChanges Meets [] c = ⊥
StopsInChanges Meets (change ∷ changes) c = StopsAtChange Meets change c ⊎ StopsInChanges Meets changes (applied c change)

-- one of these that are written, of a commit that inserts what is above the last call's number
abbrev pub StopsInWritten : Option ℕ → List Change → Content → Type 0
StopsInWritten last changes c = StopsInChanges (HasAbove last c) (written_changes changes) c

-- at the events of one statement, four at most, after those before them
abbrev pub InEvents : (List Event → Content → Type 0) → List Event → Content → Type 0
InEvents At [] c = ⊥
InEvents At (e ∷ []) c = At (e ∷ []) c
InEvents At (e ∷ f ∷ []) c = At (e ∷ f ∷ []) c
InEvents At (e ∷ f ∷ g ∷ []) c = At (e ∷ f ∷ g ∷ []) c
InEvents At (e ∷ f ∷ g ∷ h ∷ es) c = At (e ∷ f ∷ g ∷ h ∷ []) c ⊎ InEvents At es (with_events c (e ∷ f ∷ g ∷ h ∷ []))

-- a number of theirs doesn't fit its column or its range, one isn't as its kind is, or the store refuses the statement that puts them
abbrev pub StopsAtEvents : List Event → Content → Type 0
StopsAtEvents es c = (¬ (Every EventFits es)) ⊎ RefusesEvents es None (relations_of c)

abbrev pub StopsInEvents : List Event → Content → Type 0
StopsInEvents = InEvents StopsAtEvents

-- the kept record, or after it the counters
abbrev pub StopsAtLast : Kept → Meta → Content → Type 0
StopsAtLast kept meta c =
    RefusesOn INSERT_KEPT.now (kept_values kept) None (relations_of c) ⊎ RefusesOn UPDATE_META.now (meta_shown meta) None (relations_of (with_kept c kept))

-- one of the events, or what is written last
abbrev pub StopsInRest : List Event → Kept → Meta → Content → Type 0
StopsInRest events kept meta c = StopsInEvents events c ⊎ StopsAtLast kept meta (with_events c events)

-- one of the changes that are written, or what is written after them
abbrev pub StopsInAll : Type 0 → List Change → List Event → Kept → Meta → Content → Type 0
StopsInAll Meets changes events kept meta c = StopsInChanges Meets (written_changes changes) c ⊎ StopsInRest events kept meta (all_applied c changes)

-- the same of what a call is shown, which inserts what is above the last call's number
abbrev pub StopsInCommit : Option ℕ → Shown (List Change) → Shown (List Event) → Shown Kept → Shown Meta → Content → Type 0
StopsInCommit last changes events kept meta c = StopsInAll (HasAbove last c) changes.entry.now events.entry.now kept.entry.now meta.entry.now c

-- ---- what of it doesn't fit, and what the store refuses

-- each number of the changes that are written, and of the events, fits its column and its range
abbrev pub AllNumbersFit : List Change → List Event → Type 0
AllNumbersFit changes events = Every ChangeFits (written_changes changes) × Every EventFits events

-- the store refuses one of them, after those before it
abbrev pub RefusesInChanges : Type 0 → List Change → Content → Type 0
RefusesInChanges Meets [] c = ⊥
RefusesInChanges Meets (change ∷ changes) c = RefusesChange Meets change (relations_of c) ⊎ RefusesInChanges Meets changes (applied c change)

abbrev pub RefusesInEvents : List Event → Content → Type 0
RefusesInEvents = InEvents (λ es c. RefusesEvents es None (relations_of c))

-- a statement of a change that is written, of an event after them, or of what is last
abbrev pub RefusesInAll : Type 0 → List Change → List Event → Kept → Meta → Content → Type 0
RefusesInAll Meets changes events kept meta c =
    RefusesInChanges Meets (written_changes changes) c
    ⊎ (RefusesInEvents events (all_applied c changes) ⊎ StopsAtLast kept meta (with_events (all_applied c changes) events))

-- ---- failures

-- why it fails, where `Stops c` says at what it stops
abbrev pub FailsToApply : (Content → Type 0) → Content → State → State → Error → Type 0
FailsToApply Stops c old new e = IsMemory e ⊎ (StoreHasFailed old new ⊎ Stops c)

-- it fails by this alone
abbrev pub IsStopped : {A : Type 0} → (Content → Type 0) → State → State → Result A Error → Type 0
IsStopped Stops old new result = HasCleanDisk new → (c : Content) → HoldsGood old c → IfErr result (FailsToApply Stops c old new)

-- so it is with the connection of a transaction
abbrev pub FailsAt : {S A : Type 0} → Ghosts S → Lent (Transaction S) → Result A Error → (Content → Type 0) → Type 0
FailsAt g tx result Stops = IsStopped Stops (state g tx.entry.now.conn.now) (state g tx.exit.now.conn.now) result

-- the same of one statement, which the store may refuse
abbrev pub HasWriteCauseAt : {S A : Type 0} → Ghosts S → Lent (Transaction S) → Result A Error → (Option ℕ → Relations → Type 0) → Type 0
HasWriteCauseAt g tx result Refuses = HasWriteCause Refuses (state g tx.entry.now.conn.now) (state g tx.exit.now.conn.now) result

-- of a whole commit, on a connection that holds a content
abbrev pub IsUndone : {A : Type 0} → (Content → Type 0) → State → State → Result A Error → Type 0
IsUndone Stops old new result = HasCleanDisk new → (c : Content) → HoldsContent old c → IfErr result (FailsToApply Stops c old new)

-- the same of what a connection holds before and after
abbrev pub IsUndoneAt : {S A : Type 0} → Ghosts S → Lent (Held S) → Result A Error → (Content → Type 0) → Type 0
IsUndoneAt g conn result Stops = IsUndone Stops (state_before g conn) (state_after g conn) result

-- ---- a commit of changes

-- these counters don't fit their columns after so many events, or the kept record doesn't fit
abbrev pub AreUncounted : Meta → List Change → ℕ → Kept → Type 0
AreUncounted meta changes events kept = ¬ (MetaFits (meta_after meta changes events kept) × KeptFits kept)

-- the same of a content's
abbrev pub IsUncounted : List Change → ℕ → Kept → Content → Type 0
IsUncounted changes events kept c = AreUncounted (meta_of c.rows) changes events kept

-- those don't fit, or it stops at something that it writes
abbrev pub StopsCounted : List Change → List Event → Kept → Content → Type 0
StopsCounted changes events kept c =
    IsUncounted changes (length events) kept c ⊎ StopsInAll (HasAbove (Some c.rows.last_call) c) changes events kept (counters_after changes events kept c) c

-- the same of what a call is shown, with the counters that are held before it
abbrev pub StopsCommit : Lent (Option Meta) → Shown (List Change) → Shown (List Event) → Shown Kept → Content → Type 0
StopsCommit held changes events kept = StopsOn held.entry.now (StopsCounted changes.entry.now events.entry.now kept.entry.now)

-- ---- a commit of tables

-- the limits and the counters of the rows fit their columns, and the kept record fits
abbrev pub AreCounted : Rows → Kept → Type 0
AreCounted rows kept = MetaFits (meta_of rows) × KeptFits kept

-- a group, a station or an agent that is held isn't among the rows
abbrev pub DropsOf : Rows → Rows → Type 0
DropsOf held rows = ¬ (AreWhole (rows_differences held rows))

abbrev pub Drops : Rows → Content → Type 0
Drops rows c = DropsOf c.rows rows

-- those don't fit, it would drop one of these, or it stops at something that it writes
abbrev pub StopsReplace : Rows → List Event → Kept → Content → Type 0
StopsReplace rows events kept c =
    (¬ (AreCounted rows kept)) ⊎ (Drops rows c ⊎ StopsInAll ⊥ (rows_differences c.rows rows) events kept (meta_of rows) c)

-- ---- either

-- why a call that reads first fails: as a read does, or at this
abbrev pub IsCausedByReadOr : {A : Type 0} → (Content → Type 0) → State → State → Result A Error → Type 0
IsCausedByReadOr Stops old new result = HasCleanDisk new → (c : Content) → HoldsContent old c → IfErr result (λ e. FailsToRead c old new e ⊎ Stops c)

-- that, and what it leaves of the store's count and of the limit of steps
pub record HasReadCauseOr {A : Type 0} (Stops : Content → Type 0) (old new : State) (result : Result A Error) : Type 0 where
  pub cause : IsCausedByReadOr Stops old new result
  pub counts : OnOk result (old.faults ≤ new.faults)
  pub limit : OnOk result (new.step_limit ≡ old.step_limit)
