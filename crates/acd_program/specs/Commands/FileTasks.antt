-- What a call did over files that were just opened, by their disk, and how a command ended.
use Rattle.std.specs.Prelude.{◌≡◌, ◌⊎◌, ℕ, Bool, false, List, Option, Result, IfOk}
use Rattle.sqlite_disk.specs.declared.Disk.{Ghosts}
use Rattle.sqlite_disk.specs.declared.calls.Calls as calls
use Rattle.sqlite_disk.specs.declared.start.Start as start
use Rattle.sqlite_disk.specs.declared.modelled.Modelled.{Modelled}
use Rattle.sqlite_std_file.specs.declared.host.Host.{Host}
use Rattle.sqlite_std_file.specs.File.{IsFresh}
use Rattle.sqlite.specs.Held.{Held, state}
use Rattle.sqlite_trees.specs.declared.store.Store.{Ghosts as Stores}
use Rattle.clap.specs.Words.{Text}
use Rattle.acd_book.specs.declared.book.Book as book
use Rattle.acd_desk.specs.Audits.Pairs.{BookCall}
use Rattle.acd_desk.specs.declared.desk.Desk.{Desk}
use Rattle.acd_desk.specs.Desks.DeskState.{state_of}
use Rattle.acd_lines.specs.Lines.{Streams, Output}
use Rattle.acd_log.specs.declared.ending.Ending.{Ending}
use Rattle.acd_command.specs.CommandLine.{IsTaskOf, IsUntaken}
use Rattle.acd_sessions.specs.Over.{OverConnection}
use Rattle.acd_program.specs.Archives.Pruning.{IsPruningInOrder, BookPruned, LeavesPruned}
use Rattle.acd_program.specs.Statuses.{IsDone, status_number, exit_number, fault_exit}
use Rattle.acd_program.specs.Commands.TasksEnded.{TaskDone, TaskEnded}
use Rattle.acd_sessions.specs.ToDo.{ToDo}
use Rattle.acd_program.specs.Archives.WithArchive.{AskedWithArchive, AuditsWithArchive, AuditedWithArchive, BookAskedWithArchive}
use Rattle.acd_command.specs.declared.asked.Task.{Task}
use Rattle.acd_program.specs.declared.auditing.Finding.{Finding}
use Rattle.acd_program.specs.declared.desk.Done.{Done}
use Rattle.acd_program.specs.declared.fault.Fault.{Fault}
use Rattle.acd_program.specs.declared.outcome.Pruning.{Pruning}
use Rattle.acd_program.specs.declared.status.Exit.{Exit}
use Rattle.acd_program.specs.declared.status.Exit.TheVariants.{Done as ExitDone}
use Rattle.acd_program.specs.declared.status.Status.{Status}

-- no task was done: nothing was read, and nothing written, unless help was asked for
abbrev pub IsNoTask : List Text → Streams → Type 0
IsNoTask words io = io.unread × (io.unwritten ⊎ IsUntaken words)

-- the files are those of the host, of whose bytes `known` is known at the start
module _ {S : Type 0} {host : calls.Ghosts Host} {known : start.Ghosts S} (disk : Ghosts (Modelled Host S host known)) where
  -- ---- with an archive

  -- the desk was asked while the archive was open
  abbrev pub AsksWithArchive : {B F : Type 0} → book.Ghosts B → Desk B → Desk B → Result Finding F → Type 0
  AsksWithArchive books old new result = IfOk result (AskedWithArchive disk IsFresh (state_of books old) (state_of books new))

  -- the book of such a desk was audited, with a count or without, and with how its log ended
  abbrev pub AuditsWith : {B F : Type 0} → Bool × Ending → book.Ghosts B → B → Result Done F × B → Type 0
  AuditsWith asked books given result = IfOk result.0 (AuditsWithArchive disk IsFresh asked.0 asked.1 (books.state given) (books.state result.1))

  -- so was the book that a database held
  abbrev pub AuditsDatabase : {C F : Type 0} → Bool × Ending → Stores C → Held C → Result Done F × Held C → Type 0
  AuditsDatabase asked store conn result = IfOk result.0 (AuditedWithArchive disk IsFresh asked.0 asked.1 (state store conn) (state store result.1))

  -- a book was asked what may go of it while the archive was open
  abbrev pub AsksToPrune : {F : Type 0} → Ending → BookCall → Result Pruning F → Type 0
  AsksToPrune ending current result = IfOk result (BookAskedWithArchive disk IsFresh (IsPruningInOrder ending) current.old current.new)

  -- the prune of the book that a database held, with the connection that came back
  abbrev pub prune_over : {C : Type 0} → Ending → Stores C → Held C → Held C → ToDo Pruning Fault
  prune_over ending store conn last = record {
    Done = λ (pruning : Pruning). OverConnection (λ old new. BookPruned disk IsFresh ending old new pruning) false (state store conn) (state store last);
    Left = LeavesPruned disk IsFresh (state store conn) (state store last);
  }

  -- ---- tasks

  -- the task was done, and the command ended with its status
  abbrev pub ExitsDone : Task → Streams → Output → Exit → Type 0
  ExitsDone task io errors exit = (status : Status) × (exit ≡ ExitDone status) × TaskDone disk IsFresh task io errors.before errors.after status

  -- a fault ended it, of which a line may be on the stream of errors since
  abbrev pub ExitsByFault : Task → Streams → Option (List ℕ) → Exit → Type 0
  ExitsByFault task io before exit = (why : Fault) × (said : Option (List ℕ)) × (exit ≡ fault_exit why) × TaskEnded disk IsFresh task io before said why

  -- so the task was done, and the command ended with its status; or a fault ended it, of which a line may be on the stream of errors since
  abbrev pub ExitsTask : Task → Streams → Output → Exit → Type 0
  ExitsTask task io errors exit = ExitsDone task io errors exit ⊎ ExitsByFault task io errors.before exit

  -- ---- by the words of a command line

  -- the task that they name was done so
  abbrev pub NamedTaskDone : List Text → Streams → Option (List ℕ) → Option (List ℕ) → ℕ → Type 0
  NamedTaskDone words io old_errors new_errors status =
      (task : Task) × IsTaskOf words task × (so : Status) × (status ≡ status_number so) × TaskDone disk IsFresh task io old_errors new_errors so

  -- A status without a fault is that of such a task. Or it is 0, for words that aren't a command line, as where help was asked for: then nothing was read, and nothing was printed on the stream of
  -- errors.
  abbrev pub DoneOrHelp : List Text → Streams → Output → ℕ → Type 0
  DoneOrHelp words io errors status = IsDone status → ((status ≡ 0) × IsUntaken words × io.unread × errors.unwritten) ⊎ NamedTaskDone words io errors.before errors.after status

  -- the task that they name was ended so, by a fault that has this status
  abbrev pub NamedTaskEnded : List Text → Streams → Option (List ℕ) → ℕ → Type 0
  NamedTaskEnded words io old_errors status =
      (task : Task) × IsTaskOf words task × (new_errors : Option (List ℕ)) × (fault : Fault) × TaskEnded disk IsFresh task io old_errors new_errors fault × (status ≡ exit_number (fault_exit fault))

  -- the status of a fault is that of the task that the words name, which was ended so; of one that came before there was a task, it is 1
  abbrev pub FaultEnded : List Text → Streams → Option (List ℕ) → ℕ → Type 0
  FaultEnded words io old_errors status = ((status ≡ 4) → NamedTaskEnded words io old_errors status) × ((status ≡ 1) → IsNoTask words io ⊎ NamedTaskEnded words io old_errors status)
