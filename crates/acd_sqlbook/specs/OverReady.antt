-- What a call of a ready connection leaves, by the states of the connection before and after the call.
use Rattle.std.specs.Prelude.{◌≡◌, List, OnOk, Option, Result, Vec}
use Rattle.sqlite_trees.specs.declared.store.Store.{Ghosts}
use Rattle.sqlite.specs.Held.{state}
use Rattle.sqlite.specs.State.{HasCleanDisk}
use Rattle.sqlite.specs.declared.error.Error.{Error}
use Rattle.acd_terms.specs.declared.event.Event.{Event}
use Rattle.acd_model.specs.declared.moves.Change.{Change}
use Rattle.acd_book.specs.Content.{Content, Commit}
use Rattle.acd_book.specs.declared.kept.Kept.{Kept}
use Rattle.acd_sql_columns.specs.declared.meta.Meta.{Meta}
use Rattle.acd_sql_columns.specs.Transactions.{HoldsContent}
use Rattle.acd_sql_statements.specs.ReadFailures.{HasReadCause}
use Rattle.acd_sqlbook.specs.Calls.{HasRead, HasReplaced}
use Rattle.acd_sqlbook.specs.Commit.{written_by}
use Rattle.acd_sqlbook.specs.Counters.{AreCounters}
use Rattle.acd_sqlbook.specs.Lent.{Lent, Shown}
use Rattle.acd_sqlbook.specs.CommitStops.{HasReadCauseOr, IsCausedByReadOr}
use Rattle.acd_sqlbook.specs.declared.ready.Ready.{Ready}

-- ---- what it reads

-- it reads, where `IsAnswer c found` says that this is found in that content
abbrev pub ReadyReads : {S A : Type 0} {g : Ghosts S} → Lent (Ready S g) → Result A Error → (Content → A → Type 0) → Type 0
ReadyReads {S} {A} {g} ready result IsAnswer = HasRead (state g ready.entry.now.conn) (state g ready.exit.now.conn) result IsAnswer

-- it finds just this of the content
abbrev pub ReadyFinds : {S A : Type 0} {g : Ghosts S} → Lent (Ready S g) → Result A Error → (Content → A) → Type 0
ReadyFinds {S} {A} {g} ready result answer =
    HasRead (state g ready.entry.now.conn) (state g ready.exit.now.conn) result (λ (c : Content) (found : A). found ≡ answer c)

-- it finds just this list of the content
abbrev pub ReadyLists : {S T Z : Type 0} {g : Ghosts S} → Lent (Ready S g) → Result (Vec T Z) Error → (Content → List T) → Type 0
ReadyLists {S} {T} {Z} {g} ready result answer =
    HasRead (state g ready.entry.now.conn) (state g ready.exit.now.conn) result (λ (c : Content) (found : Vec T Z). found.items ≡ answer c)

-- it finds just this of a content, if the counters that are held are the content's
abbrev pub ReadyCounts : {S A : Type 0} {g : Ghosts S} → Lent (Ready S g) → Option Meta → Result A Error → (Content → A) → Type 0
ReadyCounts {S} {A} {g} ready held result answer =
    HasRead (state g ready.entry.now.conn) (state g ready.exit.now.conn) result (λ (c : Content) (found : A). AreCounters held c → found ≡ answer c)

-- if the first is so of the content that the connection held, so is the second, where no disk broke a promise
abbrev pub Carries : {S : Type 0} {g : Ghosts S} → Lent (Ready S g) → (Content → Type 0) → (Content → Type 0) → Type 0
Carries {S} {g} ready Before After =
    HasCleanDisk (state g ready.exit.now.conn) → (c : Content) → HoldsContent (state g ready.entry.now.conn) c → Before c → After c

-- ---- what it commits

-- it commits, or leaves the content as it was
abbrev pub ReadyCommits : {S : Type 0} {g : Ghosts S} → Lent (Ready S g) → Result (Unit {0}) Error → Commit → Type 0
ReadyCommits {S} {g} ready result commit = HasReplaced (state g ready.entry.now.conn) (state g ready.exit.now.conn) result commit.Follows commit.after

-- after a commit that succeeded, the counters that are held are those of the content that it made
abbrev pub HoldsCounters : {S : Type 0} {g : Ghosts S} → Lent (Ready S g) → Result (Unit {0}) Error → Option Meta → Commit → Type 0
HoldsCounters {S} {g} ready result held commit = Carries ready commit.Follows (λ (c : Content). OnOk result (AreCounters held (commit.after c)))

-- a commit of changes to a content of which the counters are that are held before it
abbrev pub commit_on : Lent (Option Meta) → Shown (List Change) → Shown (List Event) → Shown Kept → Commit
commit_on held changes events kept =
    record { Follows = AreCounters held.entry.now; after = written_by changes.entry.now events.entry.now kept.entry.now }

-- ---- why it fails

-- as a read does
abbrev pub ReadyFails : {S A : Type 0} {g : Ghosts S} → Lent (Ready S g) → Result A Error → Type 0
ReadyFails {S} {A} {g} ready result = HasReadCause (state g ready.entry.now.conn) (state g ready.exit.now.conn) result

-- as a read does, or at this
abbrev pub ReadyStops : {S A : Type 0} {g : Ghosts S} → Lent (Ready S g) → Result A Error → (Content → Type 0) → Type 0
ReadyStops {S} {A} {g} ready result Stops = IsCausedByReadOr Stops (state g ready.entry.now.conn) (state g ready.exit.now.conn) result

-- the same, and what it leaves of the store's count and of the limit of steps
abbrev pub ReadyFailsOr : {S A : Type 0} {g : Ghosts S} → Lent (Ready S g) → Result A Error → (Content → Type 0) → Type 0
ReadyFailsOr {S} {A} {g} ready result Stops = HasReadCauseOr Stops (state g ready.entry.now.conn) (state g ready.exit.now.conn) result
