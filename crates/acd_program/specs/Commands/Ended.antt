-- A fault ended a command, and what is left: a reopening may find (a) what it could find at the start, or (b) that with the first of the requests. `Unserved` says (a) of a connection;
-- sessions and desks over its book say (b).
use Rattle.std.specs.Prelude.{◌≡◌, ◌⊎◌, ℕ, Bool, List, Option, Result, Ok, Err}
use Rattle.sqlite_disk.specs.declared.Disk.{Ghosts}
use Rattle.sqlite_store.specs.declared.store.FileStore.{FileStore}
use Rattle.sqlite.specs.Held.{Held, state}
use Rattle.sqlite_trees.specs.declared.store.Store.{Ghosts as Stores}
use Rattle.sqlite.specs.State.{State}
use Rattle.sqlite.specs.Files.{file_state}
use Rattle.acd_terms.specs.declared.command.Request.{Request}
use Rattle.acd_book.specs.declared.book.Book as book
use Rattle.acd_book.specs.State.{BookState}
use Rattle.acd_io.specs.SentBytes.{Begins, Breaks}
use Rattle.acd_lines.specs.Lines.{LinesAnswered, FirstRequests, RequestsAnswered, Output}
use Rattle.acd_reports.specs.Plan.{plan_requests}
use Rattle.acd_program.specs.Commands.AuditFindings.{IsFindingOf}
use Rattle.acd_program.specs.Commands.InFiles.{WorkedOver}
use Rattle.acd_sessions.specs.Over.{IsSession, OverConnection, Unserved, OnlyAsked}
use Rattle.acd_sessions.specs.ToDo.{ToDo}
use Rattle.acd_program.specs.Commands.Work.{ImportsOver, IsFindingIfOrdered, WorkDone, text_left}
use Rattle.acd_program.specs.declared.status.Status.{Status}
use Rattle.acd_sessions.specs.declared.fault.WorkFault.{WorkFault}
use Rattle.acd_sessions.specs.declared.fault.WorkFault.TheVariants.{NoMemory, Store}
use Rattle.acd_command.specs.declared.asked.Work.{Work}
use Rattle.acd_command.specs.declared.asked.Work.TheVariants.{Import, Print, Audit}
use Rattle.acd_program.specs.declared.desk.Done.{Done}
use Rattle.acd_files.specs.Connections.{IsShut}

-- ---- faults

-- of closing a file
abbrev pub IsOfClosing : WorkFault → Type 0
IsOfClosing fault = (fault ≡ NoMemory) ⊎ (fault ≡ Store)

-- the fault of a command: the one that ended its work or, where none did, the one of closing its file
abbrev pub IsFaultOf : Result (Unit {0}) WorkFault → WorkFault → Type 0
IsFaultOf ended fault = (ended ≡ Err fault) ⊎ ((ended ≡ Ok tt) × IsOfClosing fault)

-- work that ended so, and the closing of its file
abbrev pub then_closed : {F : Type 0} → Result (Unit {0}) WorkFault → Result (Unit {0}) F → ToDo (Unit {0}) WorkFault
then_closed ended closed = record { Done = λ done. (ended ≡ Ok tt) × (closed ≡ Ok tt); Left = IsFaultOf ended }

-- ---- over a book

-- the work only reads
abbrev pub OnlyReads : Work → Type 0
OnlyReads (Import requests) = ⊥
OnlyReads (Print printout) = Unit {0}
OnlyReads (Audit counts ending) = Unit {0}

-- the work takes the requests of a plan of these bytes
abbrev pub TakesPlan : List ℕ → Work → Type 0
TakesPlan bytes (Import requests) = plan_requests bytes ≡ Ok requests.now
TakesPlan bytes (Print printout) = ⊥
TakesPlan bytes (Audit counts ending) = ⊥

-- the first requests of a plan were executed in a session, and not all of their answers were written
abbrev pub IsBegunPlan : List Request → Option (List ℕ) → Option (List ℕ) → BookState → BookState → Type 0
IsBegunPlan requests old_output new_output old new = LinesAnswered (FirstRequests requests) (RequestsAnswered (IsSession old new)) (Breaks old_output new_output)

-- so the requests of an import; no other work is left so
abbrev pub IsWorkBegun : Work → Option (List ℕ) → Option (List ℕ) → BookState → BookState → Type 0
IsWorkBegun (Import requests) old_output new_output old new = IsBegunPlan requests.now old_output new_output old new
IsWorkBegun (Print printout) old_output new_output old new = ⊥
IsWorkBegun (Audit counts ending) old_output new_output old new = ⊥

-- a fault ended the work of a plan: no desk did anything and nothing was written, or it is begun
abbrev pub StoppedPlan : List Request → Option (List ℕ) → Option (List ℕ) → BookState → BookState → Type 0
StoppedPlan requests old_output new_output old new = (OnlyAsked old new × (new_output ≡ old_output)) ⊎ IsBegunPlan requests old_output new_output old new

-- the same of any work over the book
abbrev pub StoppedOver : Work → Option (List ℕ) → Option (List ℕ) → BookState → BookState → Type 0
StoppedOver work old_output new_output old new = (OnlyAsked old new × (new_output ≡ old_output)) ⊎ IsWorkBegun work old_output new_output old new

-- over a book that was handed in, with the one that came back: the requests of a plan
abbrev pub plan_over : {B F : Type 0} → book.Ghosts B → B → List Request → Output → B → ToDo Done F
plan_over books old requests out new = record {
  Done = λ done. ImportsOver requests (books.state old) out.before out.after (books.state new);
  Left = λ fault. StoppedPlan requests out.before out.after (books.state old) (books.state new);
}

-- and any work
abbrev pub work_over : {B F : Type 0} → book.Ghosts B → B → Work → Output → B → ToDo Done F
work_over books old work out new = record {
  Done = λ done. WorkDone IsFindingIfOrdered work (books.state old) out.before out.after done (books.state new);
  Left = λ fault. StoppedOver work out.before out.after (books.state old) (books.state new);
}

-- ---- over a connection

-- a fault ended the work: (a), and nothing was written; or (b), with the first requests of a plan
abbrev pub WorkStopped : Work → Bool → State → State → Option (List ℕ) → Option (List ℕ) → Type 0
WorkStopped work makes old new old_output new_output = (Unserved makes old new × (new_output ≡ old_output)) ⊎ OverConnection (IsWorkBegun work old_output new_output) makes old new

-- over a database that was handed in, with the connection that came back
abbrev pub work_in : {S F : Type 0} → Stores S → Bool → Held S → Work → Output → Held S → ToDo Done F
work_in store makes given work out last = record {
  Done = λ done. OverConnection (λ old new. WorkDone IsFindingOf work old out.before out.after done new) makes (state store given) (state store last);
  Left = λ fault. WorkStopped work makes (state store given) (state store last) out.before out.after;
}

module _ {D : Type 0} {g : Ghosts D} where
  -- the work was done, and a beginning of what was left of it was printed
  pub record WasCut (makes : Bool) (work : Work) (conn last : Held (FileStore D g)) (old_output new_output : Option (List ℕ)) : Type 0 where
    pub left : Done
    pub between : Option (List ℕ)
    pub done : OverConnection (λ (old new : BookState). WorkDone IsFindingOf work old old_output between left new) makes (file_state conn) (file_state last)
    pub printed : Begins between new_output (text_left left)

  -- Work over a connection ended by a fault, and the connection was shut. Work that only reads leaves (a) alone, whatever was printed.
  pub record WorkLeft (makes : Bool) (work : Work) (conn : Held (FileStore D g)) (old_output new_output : Option (List ℕ)) : Type 0 where
    pub last : Held (FileStore D g)
    pub shut : IsShut last
    pub kept : OnlyReads work → Unserved makes (file_state conn) (file_state last)
    pub left : WorkStopped work makes (file_state conn) (file_state last) old_output new_output ⊎ WasCut makes work conn last old_output new_output

  -- over a connection to files, and then printed
  abbrev pub work_on : {F : Type 0} → Held (FileStore D g) → Bool → Work → Output → ToDo Status F
  work_on conn makes work out = record { Done = WorkedOver makes work conn out.before out.after; Left = λ fault. WorkLeft makes work conn out.before out.after }
