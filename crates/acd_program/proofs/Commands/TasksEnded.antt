-- A fault that ended a task, by its parts: what is left.
use Rattle.std.proofs.Common.{◌≡◌, inl, inr, ℕ, Bool, List, Option, Some, None, Result, Ok, Err, IfErr, MatchResult, refl, sym, subst}
use Rattle.sqlite_disk.specs.declared.Disk.{Ghosts}
use Rattle.sqlite_store.specs.declared.store.FileStore.{FileStore}
use Rattle.sqlite.specs.Held.{Held}
use Rattle.acd_book.specs.declared.fault.BookFault.{BookFault}
use Rattle.acd_book.specs.declared.fault.BookFault.TheVariants as book
use Rattle.acd_lines.specs.Lines.{Streams}
use Rattle.acd_program.specs.Commands.Ended.{IsOfClosing}
use Rattle.acd_sessions.specs.Faults.{book_fault}
use Rattle.acd_program.specs.Statuses.{fault_exit}
use Rattle.acd_program.specs.Commands.TasksEnded.{LeftBeside, LeftIn, InputLeft, TaskDone, TaskEnded}
use Rattle.acd_program.specs.declared.fault.ArchiveFault.{ArchiveFault}
use Rattle.acd_program.specs.declared.fault.Fault.{Fault}
use Rattle.acd_program.specs.declared.fault.Fault.TheVariants as ended_by
use Rattle.acd_sessions.specs.declared.fault.WorkFault.{WorkFault}
use Rattle.acd_command.specs.declared.asked.Task.{Task}
use Rattle.acd_command.specs.declared.asked.Task.TheVariants as task
use Rattle.acd_program.specs.declared.status.Status.{Status}
use Rattle.acd_program.specs.declared.status.Exit.{Exit}
use Rattle.acd_program.specs.declared.status.Exit.TheVariants as exit

-- a fault of closing a file
pub closes : (why : BookFault) → IsOfClosing (book_fault why)
closes book.NoMemory = inl refl
closes book.Store = inr refl

module _ {D : Type 0} (disk : Ghosts D) (IsFresh : Bool → D → Type 0) where
  -- whatever follows from what was left
  pub ended_so : (fault : Fault) (Untouched : Type 0) (P Q : WorkFault → Held (FileStore D disk) → Type 0) → ((why : WorkFault) (conn : Held (FileStore D disk)) → P why conn → Q why conn)
      → LeftIn disk IsFresh Untouched P fault → LeftIn disk IsFresh Untouched Q fault
  ended_so (ended_by.Opening why) Untouched P Q follows h = h
  ended_so (ended_by.Work why) Untouched P Q follows h = (h.0, h.1, follows why h.0 h.2)
  ended_so (ended_by.Archive why) Untouched P Q follows h = h

  -- ---- by what the command line asks for

  module _ (r : Result Status Fault) (asked : Task) (io : Streams) (old_errors new_errors : Option (List ℕ)) where
    -- so a task ended
    pub task_ends : (given : Task) → asked ≡ given → MatchResult r (λ (status : Status). TaskDone disk IsFresh given io old_errors new_errors status) (TaskEnded disk IsFresh given io old_errors new_errors)
        → MatchResult r (λ (status : Status). TaskDone disk IsFresh asked io old_errors new_errors status) (TaskEnded disk IsFresh asked io old_errors new_errors)
    task_ends given is h =
        subst (λ (t : Task). MatchResult r (λ (status : Status). TaskDone disk IsFresh t io old_errors new_errors status) (TaskEnded disk IsFresh t io old_errors new_errors)) (sym is) h

  -- ---- where another program has the file

  other_exit : ◌≡◌ {A = Exit} exit.Failed exit.OpenElsewhere → ⊥
  other_exit is = cc

  beside_elsewhere : (Untouched : Type 0) (Left : WorkFault → Held (FileStore D disk) → Type 0) (ByArchive : ArchiveFault → Type 0) (fault : Fault) → fault_exit fault ≡ exit.OpenElsewhere
      → LeftBeside disk IsFresh Untouched Left ByArchive fault → ((why : ArchiveFault) → ByArchive why → Untouched) → Untouched
  beside_elsewhere Untouched Left ByArchive (ended_by.Opening why) is h or = h.0
  beside_elsewhere Untouched Left ByArchive (ended_by.Work why) is h or = absurd (other_exit is)
  beside_elsewhere Untouched Left ByArchive (ended_by.Archive why) is h or = or why h

  opened_elsewhere : (fault : Fault) (Untouched : Type 0) (Left : WorkFault → Held (FileStore D disk) → Type 0) → fault_exit fault ≡ exit.OpenElsewhere → LeftIn disk IsFresh Untouched Left fault → Untouched
  opened_elsewhere fault Untouched Left is h = beside_elsewhere Untouched Left (λ why. ⊥) fault is h (λ why none. absurd none)

  input_elsewhere : {Name : Type 0} (named : Option Name) (reads ends : Bool) (io : Streams) (fault : Fault) → InputLeft disk IsFresh named reads ends io fault → fault_exit fault ≡ exit.OpenElsewhere → io.unread × io.unwritten
  input_elsewhere None reads ends io fault h is = absurd (other_exit (subst (λ (x : Fault). fault_exit x ≡ exit.OpenElsewhere) h.1 is))
  input_elsewhere (Some file) reads ends io fault h is = opened_elsewhere fault (io.unread × io.unwritten) _ is h

  pub elsewhere : (asked : Task) (io : Streams) (old_errors new_errors : Option (List ℕ)) (fault : Fault) → TaskEnded disk IsFresh asked io old_errors new_errors fault → fault_exit fault ≡ exit.OpenElsewhere → io.unread × io.unwritten
  elsewhere (task.Lines file reads ends) io old_errors new_errors fault h is = input_elsewhere file reads ends io fault h.1 is
  elsewhere (task.Serve file address span) io old_errors new_errors fault h is = (h.0, (opened_elsewhere fault (io.unwritten × (new_errors ≡ old_errors)) _ is h.1).0)
  elsewhere (task.Standby file address step patience) io old_errors new_errors fault h is = (opened_elsewhere fault ((io.unread × io.unwritten) × (new_errors ≡ old_errors)) _ is h).0
  elsewhere (task.Import file plan) io old_errors new_errors fault h is = (h.0, opened_elsewhere fault io.unwritten _ is h.2)
  elsewhere (task.Read file work) io old_errors new_errors fault h is = (h.0, opened_elsewhere fault io.unwritten _ is h.2)
  elsewhere (task.AuditWithArchive file archive counts whole) io old_errors new_errors fault h is = (h.0, beside_elsewhere io.unwritten _ _ fault is h.2 (λ why left. left.3))
  elsewhere (task.Prune file archive retention quiet) io old_errors new_errors fault h is = (h.0, beside_elsewhere io.unwritten _ _ fault is h.2 (λ why left. left.3))
  elsewhere (task.ExportWithArchives file archives) io old_errors new_errors fault h is = (h.0, beside_elsewhere io.unwritten _ _ fault is h.2 (λ why left. left.3))
  elsewhere (task.AuditWhole file counts) io old_errors new_errors fault h is = (h.0, opened_elsewhere fault io.unwritten _ is h.2)

  pub err_elsewhere : (r : Result Status Fault) (asked : Task) (io : Streams) (old_errors new_errors : Option (List ℕ))
      → MatchResult r (λ (status : Status). TaskDone disk IsFresh asked io old_errors new_errors status) (TaskEnded disk IsFresh asked io old_errors new_errors)
      → IfErr r (λ (fault : Fault). fault_exit fault ≡ exit.OpenElsewhere → io.unread × io.unwritten)
  err_elsewhere (Ok status) asked io old_errors new_errors h = tt
  err_elsewhere (Err fault) asked io old_errors new_errors h = elsewhere asked io old_errors new_errors fault h
