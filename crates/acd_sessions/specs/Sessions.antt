-- Lines that ask for services alone: as a session over a database, and as what the abstract desk answers over a new desk in memory.
use Rattle.std.specs.Prelude.{◌≡◌, ◌⊎◌, ℕ, Bool, true, false, List, Option, Result, Ok, Err}
use Rattle.std.specs.Io.KnownBytes.{Appends}
use Rattle.sqlite.specs.State.{State}
use Rattle.sqlite.specs.Held.{Held, state}
use Rattle.sqlite_trees.specs.declared.store.Store.{Ghosts}
use Rattle.acd_book.specs.Content.{Content}
use Rattle.acd_book.specs.State.{BookState}
use Rattle.acd_io.specs.SentBytes.{Begins}
use Rattle.acd_lines.specs.Lines.{LinesAnswered, FirstLines, ArrivalsAnswered, Streams, streams, Untouched, LinesDone}
use Rattle.acd_lines.specs.declared.fault.LinesFault.{LinesFault}
use Rattle.acd_lines.specs.declared.fault.LinesFault.TheVariants.{NoMemory}
use Rattle.acd_desk.specs.declared.desk.Desk.{Desk}
use Rattle.acd_desk.specs.Desks.DeskState.{DeskState, state_of}
use Rattle.acd_sqlbook.specs.View.{BookView}
use Rattle.acd_sessions.specs.MemoryAnswers.{in_memory, AnsweredFromNothing, AnswersAll}
use Rattle.acd_sessions.specs.Faults.{lines_fault}
use Rattle.acd_sessions.specs.Desks.{OverDatabase, in_database}
use Rattle.acd_sessions.specs.LinesOver.{in_turn, LinesLeave, LinesInMemory, NewAnswered, NoneMade}
use Rattle.acd_sessions.specs.Over.{IsSession, IsFailedSession, AnswersOver, Database, OverConnection}
use Rattle.acd_sessions.specs.DeskAsLeft.{Seen, SeenNew, SeenIn}
use Rattle.acd_sessions.specs.ToDo.{ToDo}
use Rattle.acd_sessions.specs.declared.fault.WorkFault.{WorkFault}
use Rattle.acd_sessions.specs.declared.fault.WorkFault.TheVariants.{Store}

module _ (ends : Bool) (io : Streams) where
  -- reading or writing ended it, and the session is over a beginning of the input
  pub record Stopped (old new : BookState) (fault : WorkFault) : Type 0 where
    pub why : LinesFault
    pub outcome : fault ≡ lines_fault why
    pub session : LinesAnswered (FirstLines io.old_input) (ArrivalsAnswered (IsSession old new)) (Begins io.old_output io.new_output)

  -- a storeFault ended it, which was asked for; it is over the first lines, and all of their answers were written
  pub record Failed (old new : BookState) (fault : WorkFault) : Type 0 where
    pub outcome : fault ≡ Store
    pub asked : ends ≡ true
    pub session : LinesAnswered (FirstLines io.old_input) (ArrivalsAnswered (IsFailedSession old new)) (Appends io.old_output io.new_output)

  abbrev pub SessionLeaves : Result (Unit {0}) WorkFault → BookState → BookState → Type 0
  SessionLeaves (Ok done) old new = AnswersOver ends io old new
  SessionLeaves (Err fault) old new = Stopped old new fault ⊎ Failed old new fault

-- lines that are requests alone ended so, by a desk of the database
abbrev pub RequestsLeave : {S : Type 0} → Ghosts S → Bool → Streams → Result (Unit {0}) WorkFault → Desk (BookView S) → Desk (BookView S) → Type 0
RequestsLeave store ends io result = LinesLeave (state_of (in_database store)) (in_turn false (state_of (in_database store))) ends io result

-- they ended as a session does
abbrev pub AreASession : {S : Type 0} → Ghosts S → Bool → Bool → Streams → Type 0
AreASession {S} store makes ends io = (result : Result (Unit {0}) WorkFault) (old new : Held S)
    → OverDatabase store makes (RequestsLeave store ends io result) (state store old) new → OverConnection (SessionLeaves ends io result) makes (state store old) (state store new)

-- over any reader and any writer
abbrev pub LinesAreSessions : {S R W : Type 0} → Ghosts S → (R → Option (List ℕ)) → (W → Option (List ℕ)) → Type 0
LinesAreSessions {R = R} {W = W} store remaining contents = (makes ends : Bool) (reader : R × R) (writer : W × W) → AreASession store makes ends (streams remaining contents reader writer)

-- how lines over the database ended: where they are requests alone, by a session, whole or begun; else each of them by the desk that the lines before it left
abbrev pub DatabaseLeaves : {S : Type 0} → Ghosts S → Bool → Bool → Bool → Streams → State → Result (Unit {0}) WorkFault → Held S → Type 0
DatabaseLeaves store makes false ends io old result new = NoneMade store makes io old result new ⊎ OverConnection (SessionLeaves ends io result) makes old (state store new)
DatabaseLeaves store makes true ends io old result new =
    NoneMade store makes io old result new ⊎ SeenIn store (λ stands. LinesLeave stands (in_turn true stands) ends io result) makes old new

-- lines over a database that was handed in ended so, with the connection that came back
abbrev pub LinesLeaveIn : {S : Type 0} → Database S → Bool → Bool → Streams → Result (Unit {0}) WorkFault × Held S → Type 0
LinesLeaveIn db reads ends io result = DatabaseLeaves db.store db.makes reads ends io (state db.store db.conn) result.0 result.1

-- ---- in memory

-- all lines are answered so, or after any fault a beginning of them
abbrev pub AnswersLeave : Streams → Result (Unit {0}) LinesFault → Type 0
AnswersLeave io (Ok done) = AnswersAll io.old_input io.old_output io.new_output
AnswersLeave io (Err why) = LinesAnswered (FirstLines io.old_input) (ArrivalsAnswered AnsweredFromNothing) (Begins io.old_output io.new_output)

-- lines over a new desk that are requests alone ended so
abbrev pub AreFromNothing : Streams → Result (Unit {0}) LinesFault → Type 0
AreFromNothing io result = LinesInMemory (in_turn false (state_of in_memory)) io result → AnswersLeave io result

-- over any reader and any writer
abbrev pub LinesAreFromNothing : {R W : Type 0} → (R → Option (List ℕ)) → (W → Option (List ℕ)) → Type 0
LinesAreFromNothing {R} {W} remaining contents = (reader : R × R) (writer : W × W) (result : Result (Unit {0}) LinesFault) → AreFromNothing (streams remaining contents reader writer) result

-- how lines over a new desk in memory ended by a fault: where they are requests alone, as the abstract desk answers a beginning of them; else each by the desk that the lines before it left
abbrev pub MemoryLeft : Bool → Streams → LinesFault → Type 0
MemoryLeft false io why = AnswersLeave io (Err why)
MemoryLeft true io why = ((why ≡ NoMemory) × Untouched io) ⊎ SeenNew (λ (stands : Seen Content → DeskState) (d e : Seen Content). LinesDone stands (in_turn true stands) false io d e (Err why))

-- lines over a new desk in memory
abbrev pub memory_lines : Bool → Streams → ToDo (Unit {0}) LinesFault
memory_lines reads io = record { Done = λ done. NewAnswered reads io; Left = MemoryLeft reads io }
