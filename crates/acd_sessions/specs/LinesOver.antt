-- How lines over a book ended: over that of a database, of a file, or over a new one in memory. `InTurn d e` says how lines were answered from the desk d to the desk e.
use Rattle.std.specs.Prelude.{◌≡◌, ◌⊎◌, ℕ, Bool, true, false, ◌&&◌, List, Result, Err}
use Rattle.std.specs.Io.KnownBytes.{Appends}
use Rattle.std.specs.Borrow.{MutBor}
use Rattle.sqlite.specs.State.{State}
use Rattle.sqlite.specs.Held.{Held, state}
use Rattle.sqlite_trees.specs.declared.store.Store.{Ghosts}
use Rattle.acd_book.specs.declared.book.Book as book
use Rattle.acd_book.specs.Content.{Content}
use Rattle.acd_book.specs.State.{BookState}
use Rattle.acd_sqlbook.specs.View.{BookView}
use Rattle.acd_desk.specs.declared.desk.Desk.{Desk}
use Rattle.acd_desk.specs.declared.open_fault.OpenFault.{OpenFault}
use Rattle.acd_desk.specs.Desks.Opening.{Refused}
use Rattle.acd_desk.specs.Desks.DeskState.{DeskState, state_of}
use Rattle.acd_lines.specs.Answers.{Answers}
use Rattle.acd_lines.specs.Input.{line_of}
use Rattle.acd_lines.specs.Lines.{LinesAnswered, AllLines, Streams, Untouched, Manner, LinesDone}
use Rattle.acd_lines.specs.Parts.{InTurn}
use Rattle.acd_lines.specs.declared.fault.LinesFault.{LinesFault}
use Rattle.acd_lines.specs.declared.fault.LinesFault.TheVariants.{NoMemory}
use Rattle.acd_http.specs.LinesWithReads.{reading_line_of, ReadingAnswers}
use Rattle.acd_sessions.specs.MemoryAnswers.{in_memory}
use Rattle.acd_sessions.specs.Desks.{OverDesk, OverNewDesk, OverDatabase, in_database}
use Rattle.acd_sessions.specs.Faults.{open_fault, command_result}
use Rattle.acd_sessions.specs.Over.{AnswersOver, Database, OverConnection, Unserved}
use Rattle.acd_sessions.specs.DeskAsLeft.{SeenIn}
use Rattle.acd_sessions.specs.declared.fault.WorkFault.{WorkFault}
use denote.Triple.Both.{Both}

-- how the lines of a command are answered: requests alone or, where it `reads`, these and the reads among them
abbrev pub in_turn : {D : Type 0} → Bool → (D → DeskState) → D → D → List (List ℕ) → List (List ℕ) → Type 0
in_turn true stands = InTurn reading_line_of (ReadingAnswers stands)
in_turn false stands = InTurn line_of (Answers stands)

module _ {D : Type 0} (stands : D → DeskState) (AnsweredInTurn : D → D → List (List ℕ) → List (List ℕ) → Type 0) (ends : Bool) (io : Streams) where
  -- the whole input was answered, by a desk that hasn't failed where that was to end it
  pub record Whole (d e : D) : Type 0 where
    pub answered : LinesAnswered (AllLines io.old_input) (AnsweredInTurn d e) (Appends io.old_output io.new_output)
    pub well : ends ≡ true → (stands e).failed ≡ false

  -- lines were answered, and the command gets how that ended
  pub record LinesLeave (result : Result (Unit {0}) WorkFault) (d e : D) : Type 0 where
    pub ended : Result (Unit {0}) LinesFault
    pub lines : LinesDone stands AnsweredInTurn ends io d e ended
    pub outcome : result ≡ command_result ended (ends && (stands e).failed)

module _ {B : Type 0} (says : book.Ghosts B) (AnsweredInTurn : Desk B → Desk B → List (List ℕ) → List (List ℕ) → Type 0) (ends : Bool) (io : Streams) where
  -- the book made no desk, and nothing was read or written
  pub record NoDesk (old : BookState) (result : Result (Unit {0}) WorkFault) (last : B) : Type 0 where
    pub why : OpenFault
    pub outcome : result ≡ Err (open_fault why)
    pub refused : Refused old why (says.state last)
    pub untouched : Untouched io

  -- lines over the book
  abbrev pub LinesOver : BookState → Result (Unit {0}) WorkFault → B → Type 0
  LinesOver old result last = NoDesk old result last ⊎ OverDesk says (LinesLeave (state_of says) AnsweredInTurn ends io result) old last

-- lines over a desk ended so, where they are answered in this manner
abbrev pub LinesLeaveDesk : {D : Type 0} → Manner D → Streams → Both (MutBor D) (MutBor D) → Result (Unit {0}) WorkFault → Type 0
LinesLeaveDesk manner io desk result = LinesLeave manner.stands manner.Answered manner.ends io result desk.entry.now desk.exit.now

-- lines over a book did, with the book that came back
abbrev pub LinesLeaveBook : {B : Type 0} → book.Ghosts B → B → Manner (Desk B) → Streams → Result (Unit {0}) WorkFault × B → Type 0
LinesLeaveBook books given manner io result = LinesOver books manner.Answered manner.ends io (books.state given) result.0 result.1

module _ {S : Type 0} (store : Ghosts S) (makes : Bool) (io : Streams) where
  -- there was no desk: nothing was read or written, and a crash leaves what it left before, or a new book
  pub record NoneMade (old : State) (result : Result (Unit {0}) WorkFault) (new : Held S) : Type 0 where
    pub why : WorkFault
    pub outcome : result ≡ Err why
    pub unserved : Unserved makes old (state store new)
    pub untouched : Untouched io

-- lines over the book of the database
abbrev pub LinesIn : {S : Type 0} → (store : Ghosts S) → (Desk (BookView S) → Desk (BookView S) → List (List ℕ) → List (List ℕ) → Type 0) → Bool → Bool → Streams → State → Result (Unit {0}) WorkFault → Held S → Type 0
LinesIn store AnsweredInTurn makes ends io old result new =
    NoneMade store makes io old result new ⊎ OverDatabase store makes (LinesLeave (state_of (in_database store)) AnsweredInTurn ends io result) old new

-- lines over a database that was handed in ended so, with the connection that came back, where a line leads from one desk to another so
abbrev pub LinesLeaveEach : {S : Type 0} → Database S → (Desk (BookView S) → Desk (BookView S) → List (List ℕ) → List (List ℕ) → Type 0) → Bool → Streams → Result (Unit {0}) WorkFault × Held S → Type 0
LinesLeaveEach db AnsweredInTurn ends io result = LinesIn db.store AnsweredInTurn db.makes ends io (state db.store db.conn) result.0 result.1

-- the whole input was answered over the book of the database: where lines are requests alone, by a session; else each by the desk that the lines before it left
abbrev pub DatabaseAnswered : {S : Type 0} → Ghosts S → Bool → Bool → Bool → Streams → State → Held S → Type 0
DatabaseAnswered store makes false ends io old new = OverConnection (AnswersOver ends io) makes old (state store new)
DatabaseAnswered store makes true ends io old new = SeenIn store (λ stands. Whole stands (in_turn true stands) ends io) makes old new

module _ (AnsweredInTurn : Desk Content → Desk Content → List (List ℕ) → List (List ℕ) → Type 0) (io : Streams) where
  -- lines over a new desk in memory, for which there may be no room
  abbrev pub LinesInMemory : Result (Unit {0}) LinesFault → Type 0
  LinesInMemory result = ((result ≡ Err NoMemory) × Untouched io) ⊎ OverNewDesk (λ (d e : Desk Content). LinesDone (state_of in_memory) AnsweredInTurn false io d e result)

-- the whole input was answered over a new desk in memory
abbrev pub NewAnswered : Bool → Streams → Type 0
NewAnswered reads io = OverNewDesk (Whole (state_of in_memory) (in_turn reads (state_of in_memory)) false io)
