-- What a read between transactions finds and sees, and why it fails. A word over a connection takes what that holds before and after.
use Rattle.std.specs.Prelude.{◌≡◌, ℕ, ⊤, List, Vec, IsTrue, IfOk, OnOk, Result}
use Rattle.std.specs.declared.alloc.Global.{Global}
use Rattle.sqlite_value.specs.Order.{Row}
use Rattle.sqlite_schema.specs.declared.schema.Schema.{Schema}
use Rattle.sqlite_trees.specs.declared.store.Store.{Ghosts}
use Rattle.sqlite.specs.Effect.{Database}
use Rattle.sqlite.specs.Given.{IsPlain}
use Rattle.sqlite.specs.Held.{Held, state}
use Rattle.sqlite.specs.Listing.{understood}
use Rattle.sqlite.specs.State.{State, HasCleanDisk, Shown}
use Rattle.sqlite.specs.declared.error.Error.{Error}
use Rattle.acd_book.specs.Content.{Content}
use Rattle.acd_sql_columns.specs.ReadResults.{Finds}
use Rattle.acd_sql_columns.specs.Schema.{book_schema}
use Rattle.acd_sql_columns.specs.DatabaseView.{Sees}
use Rattle.acd_sql_columns.specs.Transactions.{HoldsContent, Quiet, NoStop}
use Rattle.acd_sql_statements.specs.StoreFailures.{Text}
use Rattle.acd_sql_statements.specs.Looks.{Look}
use Rattle.acd_sql_statements.specs.ReadFailures.{HasReadCause, HasReadCauseIf, IsAnswered}

-- ---- of a book

-- it finds what `IsAnswer` says of its content
abbrev pub FindsIn : {S A : Type 0} → Ghosts S → Held S → Held S → Result A Error → (Content → A → Type 0) → Type 0
FindsIn g old new result IsAnswer = Finds (state g old) (state g new) result IsAnswer

-- the list that is this of the content
abbrev pub FindsList : {S T : Type 0} → Ghosts S → Held S → Held S → Result (Vec T Global) Error → (Content → List T) → Type 0
FindsList {S} {T} g old new result list = FindsIn g old new result (λ (c : Content) (found : Vec T Global). found.items ≡ list c)

-- it failed for a cause that is known
abbrev pub HasReadCauseIn : {S A : Type 0} → Ghosts S → Held S → Held S → Result A Error → Type 0
HasReadCauseIn g old new result = HasReadCause (state g old) (state g new) result

-- the same where this holds of the content
abbrev pub HasReadCauseWhere : {S A : Type 0} → (Content → Type 0) → Ghosts S → Held S → Held S → Result A Error → Type 0
HasReadCauseWhere P g old new result = HasReadCauseIf P (state g old) (state g new) result

-- the same where the store never refuses the text in tables of a book
abbrev pub HasReadCauseAt : {S A : Type 0} → Ghosts S → Held S → Held S → Result A Error → Text → Type 0
HasReadCauseAt g old new result text = IsAnswered text.0 text.1 → HasReadCauseIn g old new result

-- it finds what `IsAnswer` says of the content, or failed for a cause that is known
pub record LooksUp {S A : Type 0} (g : Ghosts S) (old new : Held S) (result : Result A Error) (IsAnswer : Content → A → Type 0) : Type 0 where
  pub found : Finds (state g old) (state g new) result IsAnswer
  pub cause : HasReadCause (state g old) (state g new) result

-- the list that is this of the content
abbrev pub LooksUpList : {S T : Type 0} → Ghosts S → Held S → Held S → Result (Vec T Global) Error → (Content → List T) → Type 0
LooksUpList {S} {T} g old new result list = LooksUp g old new result (λ (c : Content) (found : Vec T Global). found.items ≡ list c)

-- what is this of the content
abbrev pub LooksUpItem : {S A : Type 0} → Ghosts S → Held S → Held S → Result A Error → (Content → A) → Type 0
LooksUpItem {S} {A} g old new result item = LooksUp g old new result (λ (c : Content) (found : A). found ≡ item c)

-- ---- of any database

-- its answer is what the look says of each database over which that is
abbrev pub SeesOver : {S A : Type 0} → Ghosts S → Held S → Held S → Result A Error → Look A → Type 0
SeesOver g old new result look = (d : Database) → look.Over d.schema → Sees d (state g old) (state g new) result (look.IsAnswer d)

-- the same as a fact of its own
pub record LooksAt {S A : Type 0} (g : Ghosts S) (old new : Held S) (result : Result A Error) (look : Look A) : Type 0 where
  pub seen : SeesOver g old new result look

-- it is the whole schema of a book
abbrev pub IsBookSchema : Schema → Type 0
IsBookSchema schema = schema ≡ book_schema

-- where it succeeds, the connection is open
abbrev pub IsUp : {A : Type 0} → State → Result A Error → Type 0
IsUp new result = HasCleanDisk new → OnOk result (IsTrue new.is_open)

-- ---- what is found

-- these are its items
abbrev pub AreItems : {T : Type 0} → List T → Vec T Global → Type 0
AreItems items found = found.items ≡ items

-- ---- of a text

-- in tables of a book the text is a plain one: it returns no rows of what it writes, and reads no time
abbrev pub IsPlainText : List ℕ → Type 0
IsPlainText sql = IsPlain (understood book_schema sql)

-- nothing is changed, but that a failure may shut the connection
abbrev pub QuietIn : {S : Type 0} → Ghosts S → Held S → Held S → Type 0
QuietIn g old new = Quiet (state g old) (state g new)

-- where no disk lied, no stop is added
abbrev pub AddsNoStop : {S : Type 0} → Ghosts S → Held S → Held S → Type 0
AddsNoStop g old new = HasCleanDisk (state g new) → NoStop (state g old) (state g new)

-- the same where this is so, and the connection held a content
abbrev pub AddsNoStopWhere : {S : Type 0} → Type 0 → Ghosts S → Held S → Held S → Type 0
AddsNoStopWhere P g old new = HasCleanDisk (state g new) → P → (c : Content) → HoldsContent (state g old) c → NoStop (state g old) (state g new)

-- it asks nothing of a database, and changes none
abbrev pub SeesEach : {S A : Type 0} → Ghosts S → Held S → Held S → Result A Error → Type 0
SeesEach g old new result = (d : Database) → Sees d (state g old) (state g new) result (λ _. ⊤)

-- these rows are those that the text shows
abbrev pub AreShown : Text → State → State → Vec Row Global → Type 0
AreShown text old new rows = Shown text.0 text.1 old new rows.items

-- where no disk lied, it shows them
abbrev pub ShowsRows : {S : Type 0} → Ghosts S → Held S → Held S → Result (Vec Row Global) Error → Text → Type 0
ShowsRows g old new result text = HasCleanDisk (state g new) → IfOk result (AreShown text (state g old) (state g new))

-- the same of each database in whose tables the text is a plain one
abbrev pub SeesShown : {S : Type 0} → Ghosts S → Held S → Held S → Result (Vec Row Global) Error → Text → Type 0
SeesShown g old new result text = (d : Database) → IsPlain (understood d.schema text.0) → Sees d (state g old) (state g new) result (AreShown text (state g old) (state g new))
