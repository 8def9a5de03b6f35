-- A commit of tables makes them of the content that they follow.
use Rattle.std.proofs.Common.{◌≡◌, List, Result, Ok, Err, IfOk, refl, sym, ap, ap₂, subst, ◌∙◌}
use Rattle.std.specs.Prelude.{Vec}
use Rattle.std.specs.declared.alloc.Global.{Global}
use Rattle.sqlite.specs.declared.error.Error.{Error}
use Rattle.sqlite.specs.State.{State}
use Rattle.acd_terms.specs.declared.event.Event.{Event}
use Rattle.acd_terms.specs.declared.rows.Rows.{Rows}
use Rattle.acd_model.specs.Changes.{changed_by}
use Rattle.acd_model.specs.declared.moves.Change.{Change}
use Rattle.acd_book.specs.Content.{Content, Follows, committed}
use Rattle.acd_book.specs.declared.kept.Kept.{Kept}
use Rattle.acd_lemmas.specs.Orders.{Orders}
use Rattle.acd_lemmas.proofs.RuleTests.{orders_decided}
use Rattle.acd_sql_columns.specs.declared.meta.Meta.{Meta}
use Rattle.acd_sql_columns.specs.declared.tables.Table.TheVariants as table
use Rattle.acd_sqlbook.specs.Calls.{HasRead, HasReplaced, ChangesLeadTo}
use Rattle.acd_sqlbook.specs.Commit.{made_by}
use Rattle.acd_sql_columns.specs.Relations.{meta_of}
use Rattle.acd_sql_columns.specs.Transactions.{HoldsContent}
use Rattle.acd_sql_columns.proofs.Rows.RowsOfRecords.{groups_rise, agents_rise}
use Rattle.acd_sql_differences.specs.ChangeOrder.{rows_differences}
use Rattle.acd_sql_differences.specs.Transition.{HasTables}
use Rattle.acd_sqlbook.proofs.CommitWrites.{rows_made}
use Rattle.acd_sqlbook.proofs.AfterProbe.{CommitsAs, reads_not, reads_on, commits_not, commits_after}
use Rattle.acd_sql_statements.proofs.ReadsInTurn.{quiet_still}

-- the held content is in order
held_in_order : (s : State) (c : Content) → HoldsContent s c → Orders c.rows
held_in_order s c held = record {
  groups = groups_rise c.rows.groups (held.encodes table.Groups).ascending;
  stations = (held.encodes table.Stations).ascending;
  agents = agents_rise c.rows.agents (held.encodes table.Agents).ascending;
  calls = (held.encodes table.Calls).ascending;
  connections = (held.encodes table.Connections).ascending;
  monitors = (held.encodes table.Monitors).ascending;
}

abbrev pub Leading : Rows → Content → Vec Change Global → Type 0
Leading rows c changes = ChangesLeadTo rows c changes.items

reads_ordered : (old new : State) (held : Rows) → HasRead old new (Ok held) (λ c (found : Rows). found ≡ c.rows)
    → HasRead old new (Ok held) (λ c (found : Rows). (found ≡ c.rows) × Orders c.rows)
reads_ordered old new held h = record { quiet = h.quiet; up = h.up; stops = h.stops; value = λ k c holds. (h.value k c holds, held_in_order old c holds) }

-- changes that lead on from the tables that were read lead on from those that are held
pub reads_leading : (old new : State) (held rows : Rows) (r : Result (Vec Change Global) Error) → HasRead old new (Ok held) (λ c (found : Rows). found ≡ c.rows)
    → IfOk r (λ changes. changes.items ≡ rows_differences held rows)
    → IfOk r (λ changes. Orders held → Orders rows → HasTables (changed_by held changes.items) rows) → HasRead old new r (Leading rows)
reads_leading old new held rows r read is leads =
    reads_on old new held r (λ c (found : Rows). (found ≡ c.rows) × Orders c.rows) (Leading rows) (reads_ordered old new held read) (on r is leads)
  where
    on : (r : Result (Vec Change Global) Error) → IfOk r (λ changes. changes.items ≡ rows_differences held rows)
        → IfOk r (λ changes. Orders held → Orders rows → HasTables (changed_by held changes.items) rows)
        → IfOk r (λ changes. (c : Content) → (held ≡ c.rows) × Orders c.rows → Leading rows c changes)
    on (Ok changes) e h = λ c p. record {
      exact = e ∙ ap (λ s. rows_differences s rows) p.0;
      leads = λ up. subst (λ s. HasTables (changed_by s changes.items) rows) p.0 (h (subst Orders (sym p.0) p.1) up);
    }
    on (Err e) is h = tt

-- nothing was written
pub replaces_not : {A : Type 0} (old new : State) (e : Error) (P : Content → A → Type 0) (rows : Rows) (events : List Event) (kept : Kept)
    → HasRead old new (Err e) P
    → HasReplaced old new (Err e) (Follows rows events kept) (committed rows events kept)
replaces_not old new e P rows events kept h = record {
  written = committed rows events kept;
  commits = commits_not old new e P (committed rows events kept) h;
  same = λ k c held follows. refl;
}

-- nor was the connection asked
pub replaces_still : (s : State) (e : Error) (rows : Rows) (events : List Event) (kept : Kept)
    → HasReplaced s s (Err e) (Follows rows events kept) (committed rows events kept)
replaces_still s e rows events kept =
    replaces_not s s e (λ c (found : Rows). found ≡ c.rows) rows events kept
    (reads_not s s e (λ c (found : Rows). found ≡ c.rows) (quiet_still s) (λ k db left. left))

-- a commit of changes that lead to the tables
pub replaces : (old mid new : State) (r : Result (Unit {0}) Error) (changes : Vec Change Global) (all : List Change) (meta : Meta) (rows : Rows)
    (events : List Event) (kept : Kept)
    → all ≡ changes.items → meta ≡ meta_of rows → HasRead old mid (Ok changes) (Leading rows)
    → CommitsAs mid new r (made_by all events kept meta) → HasReplaced old new r (Follows rows events kept) (committed rows events kept)
replaces old mid new r changes all meta rows events kept same counters read h =
    let written : Content → Content = made_by all events kept meta in
    record {
      written = written;
      commits = commits_after old mid new r written written changes (Leading rows) read (λ c leads. refl) h;
      same = λ k c held follows.
          let t = (read.value (h.clean k) c held).leads ((orders_decided rows).0 follows.ordered) in
          ap₂ (λ l m. made_by l events kept m c) same counters
          ∙ rows_made changes.items events kept rows c follows t.groups t.stations t.agents t.calls t.connections t.monitors;
    }
