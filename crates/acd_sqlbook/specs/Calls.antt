-- A call over a connection between transactions, where the connection may have failed before: what it leaves.
use Rattle.std.specs.Prelude.{◌≡◌, List, None, Result, IsTrue, IfOk, OnOk, OnErr}
use Rattle.sqlite_trees.specs.declared.store.Store.{Ghosts}
use Rattle.sqlite.specs.Held.{Held, state}
use Rattle.sqlite.specs.State.{State, HasCleanDisk}
use Rattle.sqlite.specs.declared.error.Error.{Error}
use Rattle.acd_terms.specs.declared.rows.Rows.{Rows}
use Rattle.acd_model.specs.Changes.{changed_by}
use Rattle.acd_model.specs.declared.moves.Change.{Change}
use Rattle.acd_lemmas.specs.Orders.{Orders}
use Rattle.acd_book.specs.Content.{Content}
use Rattle.acd_sql_columns.specs.Transactions.{HoldsContent, Quiet, NoStop, AddsStop, MayAdd}
use Rattle.acd_sql_differences.specs.ChangeOrder.{rows_differences}
use Rattle.acd_sql_differences.specs.Transition.{HasTables}
use Rattle.acd_sqlbook.specs.Lent.{Lent, state_before, state_after}

-- a disk that is clean after a call was so before it
abbrev pub WasClean : {S : Type 0} → Ghosts S → Held S → Held S → Type 0
WasClean g old new = HasCleanDisk (state g new) → HasCleanDisk (state g old)

-- it has no limit of steps
abbrev pub IsUnlimited : {S : Type 0} → Held S → Type 0
IsUnlimited conn = conn.step_limit ≡ None

-- a call that succeeds needs an open connection, and leaves it open
abbrev pub StaysOpen : {S A : Type 0} → Ghosts S → Lent (Held S) → Result A Error → Type 0
StaysOpen g conn result =
    HasCleanDisk (state_after g conn) → OnOk result (IsTrue (state_before g conn).is_open × IsTrue (state_after g conn).is_open)

-- a commit that succeeds makes `after` of the content that the connection held
abbrev pub CommitsContent : {S A : Type 0} → Ghosts S → Lent (Held S) → Result A Error → (Content → Content) → Type 0
CommitsContent g conn result after =
    HasCleanDisk (state_after g conn)
    → OnOk result ((c : Content) → HoldsContent (state_before g conn) c → HoldsContent (state_after g conn) (after c))

-- while it is open it holds this content
abbrev pub HoldsIfOpen : State → Content → Type 0
HoldsIfOpen s c = IsTrue s.is_open → HoldsContent s c

-- one that fails leaves that content, if the connection is still open
abbrev pub KeepsContent : {S A : Type 0} → Ghosts S → Lent (Held S) → Result A Error → Type 0
KeepsContent g conn result =
    HasCleanDisk (state_after g conn)
    → OnErr result ((c : Content) → HoldsContent (state_before g conn) c → HoldsIfOpen (state_after g conn) c)

-- a crash leaves what it could leave before, or what `after` makes of that content
abbrev pub AddsOneStop : {S : Type 0} → Ghosts S → Lent (Held S) → (Content → Content) → Type 0
AddsOneStop g conn after = HasCleanDisk (state_after g conn) → AddsStop (state_before g conn) (state_after g conn) after

-- while it is open it has a content
abbrev pub ShowsContent : State → Type 0
ShowsContent s = IsTrue s.is_open → (c : Content) × HoldsContent s c

-- a read, where `IsAnswer c found` says that this is found in that content
pub record HasRead {A : Type 0} (old new : State) (result : Result A Error) (IsAnswer : Content → A → Type 0) : Type 0 where
  pub quiet : Quiet old new
  pub up : HasCleanDisk new → OnOk result (IsTrue new.is_open)
  pub stops : HasCleanDisk new → ShowsContent old → NoStop old new
  pub value : HasCleanDisk new → IfOk result (λ (found : A). (c : Content) → HoldsContent old c → IsAnswer c found)

-- a commit, all or none, where `after c` is what it makes of a content
pub record HasCommitted (old new : State) (result : Result (Unit {0}) Error) (after : Content → Content) : Type 0 where
  pub clean : HasCleanDisk new → HasCleanDisk old
  pub up : HasCleanDisk new → OnOk result (IsTrue old.is_open × IsTrue new.is_open)
  pub was_open : HasCleanDisk new → IsTrue new.is_open → IsTrue old.is_open
  pub made : HasCleanDisk new → OnOk result ((c : Content) → HoldsContent old c → HoldsContent new (after c))
  pub undone : HasCleanDisk new → OnErr result ((c : Content) → HoldsContent old c → HoldsIfOpen new c)
  pub stops : HasCleanDisk new → ShowsContent old → MayAdd old new after

-- a commit, all or none, where `after c` is what it makes of a content that it follows
pub record HasReplaced (old new : State) (result : Result (Unit {0}) Error) (Follows : Content → Type 0) (after : Content → Content) : Type 0 where
  -- the result for any content
  pub written : Content → Content
  pub commits : HasCommitted old new result written
  pub same : HasCleanDisk new → (c : Content) → HoldsContent old c → Follows c → written c ≡ after c

-- ---- the changes of a commit of tables

-- the changes lead from the tables that are held to those of the rows
abbrev pub LeadsBetween : Rows → Rows → List Change → Type 0
LeadsBetween held rows changes = Orders held → Orders rows → HasTables (changed_by held changes) rows

-- they lead from the tables of a content to those of the rows, and are the differences of both
pub record ChangesLeadTo (rows : Rows) (c : Content) (changes : List Change) : Type 0 where
  pub exact : changes ≡ rows_differences c.rows rows
  pub leads : Orders rows → HasTables (changed_by c.rows changes) rows
