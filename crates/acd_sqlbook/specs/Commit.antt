-- The result of a commit of a content, write by write.
use Rattle.std.specs.Prelude.{ℕ, ◌+◌, List, [], ◌∷◌, ⊤, IfSome, OnOk, Result, length, max}
use Rattle.std.specs.Ordering.{nat_cmp}
use Rattle.sqlite_trees.specs.declared.store.Store.{Ghosts}
use Rattle.sqlite.specs.Held.{state}
use Rattle.sqlite.specs.State.{State, HasCleanDisk}
use Rattle.sqlite.specs.declared.error.Error.{Error}
use Rattle.sqlite.specs.declared.transaction.Transaction.{Transaction}
use Rattle.acd_terms.specs.Lists.{put_by}
use Rattle.acd_terms.specs.declared.event.Event.{Event}
use Rattle.acd_model.specs.Moves.{changed}
use Rattle.acd_model.specs.declared.moves.Change.{Change}
use Rattle.acd_model.specs.declared.moves.Change.TheVariants.{Nothing, PutGroup, PutStation, PutAgent, PutCall, PutConnection, PutMonitor, RemoveCall, RemoveConnection, RemoveMonitor}
use Rattle.acd_codec.specs.RequestForms.{IsSerial}
use Rattle.acd_book.specs.Content.{Content}
use Rattle.acd_book.specs.declared.kept.Kept.{Kept}
use Rattle.acd_sql_columns.specs.declared.meta.Meta.{Meta}
use Rattle.acd_sql_columns.specs.InRange.{IsGoodGroup, IsGoodStation, IsGoodAgent, IsGoodCall, IsGoodConnection, IsGoodMonitor, IsReported, IsStamp, IsStatus}
use Rattle.acd_sql_columns.specs.Relations.{meta_of, relations_of}
use Rattle.acd_sql_columns.specs.Transactions.{HoldsGood, HoldsUncommitted, Fits, FiguresFitColumns}
use Rattle.acd_sqlbook.specs.Lent.{Lent, Shown}

-- a stamp, a place or the number of an event, which its column can hold
abbrev pub StampFits : ℕ → Type 0
StampFits n = IsStamp n × Fits n

-- its numbers fit, and are in their ranges
abbrev pub ChangeFits : Change → Type 0
ChangeFits Nothing = ⊤
ChangeFits (PutGroup g) = FiguresFitColumns g.figures
ChangeFits (PutStation s) = ⊤
ChangeFits (PutAgent a) = StampFits a.stamp
ChangeFits (PutCall k) = IsSerial k.call
ChangeFits (PutConnection x) = IsSerial x.call × IfSome x.place StampFits
ChangeFits (PutMonitor w) = IsSerial w.monitor × Fits w.after_event
ChangeFits (RemoveCall call) = Fits call
ChangeFits (RemoveConnection call device) = Fits call
ChangeFits (RemoveMonitor monitor) = Fits monitor

abbrev pub EventFits : Event → Type 0
EventFits e = StampFits e.number × IsReported e.report

-- its stamp fits, and its status is that of a reply that is kept
abbrev pub KeptFits : Kept → Type 0
KeptFits k = StampFits k.stamp × IsStatus k.status

-- what is put by the change is read back: each value that is written of it is in its range
abbrev pub IsGoodChange : Change → Type 0
IsGoodChange (PutGroup g) = IsGoodGroup g
IsGoodChange (PutStation s) = IsGoodStation s
IsGoodChange (PutAgent a) = IsGoodAgent a
IsGoodChange (PutCall k) = IsGoodCall k
IsGoodChange (PutConnection x) = IsGoodConnection x
IsGoodChange (PutMonitor w) = IsGoodMonitor w
IsGoodChange _ = ⊤

-- a change made in its table, with the counters as they were
abbrev pub applied : Content → Change → Content
applied c change = record c { rows = record (changed c.rows change) { last_call = c.rows.last_call; last_monitor = c.rows.last_monitor } }

abbrev pub all_applied : Content → List Change → Content
all_applied c [] = c
all_applied c (change ∷ changes) = all_applied (applied c change) changes

abbrev pub content_with_event : Content → Event → Content
content_with_event c e = record c { events = put_by (λ (x : Event). nat_cmp e.number x.number) c.events e }

abbrev pub with_events : Content → List Event → Content
with_events c [] = c
with_events c (e ∷ es) = with_events (content_with_event c e) es

abbrev pub with_kept : Content → Kept → Content
with_kept c k = record c { kept = put_by (λ (x : Kept). nat_cmp k.stamp x.stamp) c.kept k }

abbrev pub with_meta : Meta → Content → Content
with_meta m c = record c {
  rows = record c.rows {
    limits = m.limits;
    last_stamp = m.last_stamp;
    last_moment = m.last_moment;
    last_call = m.last_call;
    last_monitor = m.last_monitor;
    last_event = m.last_event;
  };
}

-- the changes, the events, the kept record, and last the counters
abbrev pub made_by : List Change → List Event → Kept → Meta → Content → Content
made_by changes events kept meta c = with_meta meta (with_kept (with_events (all_applied c changes) events) kept)

-- the same of what a call is shown
abbrev pub made_from : Shown (List Change) → Shown (List Event) → Shown Kept → Shown Meta → Content → Content
made_from changes events kept meta = made_by changes.entry.now events.entry.now kept.entry.now meta.entry.now

-- each content that the transaction saw, with each value in its range, is now what `change` makes of it
abbrev pub MakesOfEach : (Content → Content) → State → State → Type 0
MakesOfEach change old new = (c : Content) → HoldsGood old c → HoldsGood new (change c)

-- the same of the tables of any content
abbrev pub MakesTablesOfEach : (Content → Content) → State → State → Type 0
MakesTablesOfEach change old new = (c : Content) → HoldsUncommitted old (relations_of c) → HoldsUncommitted new (relations_of (change c))

-- so it is after a write that succeeded, if no disk broke a promise
abbrev pub CommitLeaves : {S : Type 0} → Ghosts S → Lent (Transaction S) → Result (Unit {0}) Error → (Content → Content) → Type 0
CommitLeaves g tx result change =
    HasCleanDisk (state g tx.exit.now.conn.now) → OnOk result (MakesOfEach change (state g tx.entry.now.conn.now) (state g tx.exit.now.conn.now))

-- the tables of a change, after a write that succeeded
abbrev pub PutsChange : {S : Type 0} → Ghosts S → Lent (Transaction S) → Result (Unit {0}) Error → Change → Type 0
PutsChange g tx result change =
    HasCleanDisk (state g tx.exit.now.conn.now)
    → OnOk result (MakesTablesOfEach (λ c. applied c change) (state g tx.entry.now.conn.now) (state g tx.exit.now.conn.now))

-- a write makes this change, or all of these
abbrev pub WritesChange : {S : Type 0} → Ghosts S → Lent (Transaction S) → Result (Unit {0}) Error → Change → Type 0
WritesChange g tx result change = CommitLeaves g tx result (λ c. applied c change)

abbrev pub WritesChanges : {S : Type 0} → Ghosts S → Lent (Transaction S) → Result (Unit {0}) Error → List Change → Type 0
WritesChanges g tx result changes = CommitLeaves g tx result (λ c. all_applied c changes)

-- ---- the counters of a commit

abbrev pub top_call : ℕ → Change → ℕ
top_call last (PutCall k) = max last k.call
top_call last _ = last

abbrev pub top_monitor : ℕ → Change → ℕ
top_monitor last (PutMonitor w) = max last w.monitor
top_monitor last _ = last

abbrev pub last_call : ℕ → List Change → ℕ
last_call last [] = last
last_call last (change ∷ changes) = last_call (top_call last change) changes

abbrev pub last_monitor : ℕ → List Change → ℕ
last_monitor last [] = last
last_monitor last (change ∷ changes) = last_monitor (top_monitor last change) changes

-- those after a commit of so many events
abbrev pub meta_after : Meta → List Change → ℕ → Kept → Meta
meta_after m changes events k = record {
  limits = m.limits;
  last_stamp = k.stamp;
  last_moment = k.moment;
  last_call = last_call m.last_call changes;
  last_monitor = last_monitor m.last_monitor changes;
  last_event = m.last_event + events;
}

-- the last call's number, and those counters
abbrev pub counters_of : List Change → ℕ → Kept → Content → ℕ × Meta
counters_of changes events kept c = (c.rows.last_call, meta_after (meta_of c.rows) changes events kept)

-- those that continue the content's
abbrev pub counters_after : List Change → List Event → Kept → Content → Meta
counters_after changes events kept c = meta_after (meta_of c.rows) changes (length events) kept

-- the writes of a commit, with these counters
abbrev pub written_by : List Change → List Event → Kept → Content → Content
written_by changes events kept c = made_by changes events kept (counters_after changes events kept c) c
