-- What was to be done over files of the host, by what is known of their bytes at the start.
use Rattle.std.specs.Prelude.{ℕ, Bool, false, Option}
use Rattle.std.specs.Borrow.{MutBor}
use Rattle.sqlite_disk.specs.declared.Disk.{Ghosts as Disks}
use Rattle.sqlite_disk.specs.declared.modelled.Modelled.{Modelled}
use Rattle.sqlite_disk.specs.declared.start.Start.{Ghosts}
use Rattle.sqlite_disk.specs.Modelled.{start_of}
use Rattle.sqlite_disk.specs.Events.{replay}
use Rattle.sqlite_disk.specs.History.{MayLeave}
use Rattle.sqlite_std_file.specs.declared.host.Host.{Host}
use Rattle.sqlite_std_file.specs.contracts.host.HostCalls.TheImpl.{ghosts as calls}
use Rattle.sqlite_std_file.specs.File.{IsFresh}
use Rattle.sqlite.specs.Held.{Held, state}
use Rattle.sqlite_trees.specs.declared.store.Store.{Ghosts as Stores}
use Rattle.acd_lines.specs.Lines.{Streams, Output}
use Rattle.acd_command.specs.declared.asked.Task.{Task}
use Rattle.acd_command.specs.declared.asked.Work.{Work}
use Rattle.acd_sessions.specs.Serving.{Service}
use Rattle.acd_sessions.specs.ToDo.{ToDo}
use Rattle.acd_sessions.specs.declared.serving.Serving.{Serving}
use Rattle.acd_program.specs.Archives.ArchiveExport as archives
use Rattle.acd_program.specs.Commands.TasksEnded as files
use Rattle.acd_program.specs.declared.export.EventTable.{EventTable}
use Rattle.acd_program.specs.declared.fault.Fault.{Fault}
use Rattle.acd_program.specs.declared.status.Status.{Status}
use denote.Triple.Both.{Both}

module _ {S : Type 0} (start : Ghosts S) where
  -- the disk of such a file, member by member as its library gives it
  abbrev pub host_disk : Disks (Modelled Host S calls start)
  host_disk = record {
    seen = λ f. (replay (start_of start f) (calls.history f.calls)).seen;
    may_leave = λ f. let m = replay (start_of start f) (calls.history f.calls) in MayLeave start.is_mixing m.seen m.synced m.steps;
    is_usable = λ f. (replay (start_of start f) (calls.history f.calls)).is_usable;
    is_clean = λ f. (replay (start_of start f) (calls.history f.calls)).is_honest;
    faults = λ f. (replay (start_of start f) (calls.history f.calls)).faults;
    tally_of = λ f. let m = replay (start_of start f) (calls.history f.calls) in record { caught = m.caught; refused = m.refused };
    key_of = λ f. (replay (start_of start f) (calls.history f.calls)).key;
    is_fair = λ f. (replay (start_of start f) (calls.history f.calls)).is_fair;
    is_frozen = λ f. false;
    is_rotten = λ f at count. false;
    is_mixing = λ f. start.is_mixing;
  }

  -- ---- tables of events

  -- the events of an archive in such files were added to a table, in a call that was lent it
  abbrev pub AddsHostArchive : Both (MutBor EventTable) (MutBor EventTable) → Type 0
  AddsHostArchive table = archives.AddsArchive host_disk IsFresh table.entry.now table.exit.now

  -- and those of so many
  abbrev pub AddsHostArchives : ℕ → Both (MutBor EventTable) (MutBor EventTable) → Type 0
  AddsHostArchives count table = archives.AddsArchives host_disk IsFresh count table.entry.now table.exit.now

  -- from the header on, so many archives and then the desk of a connection, as it was and as it is then
  abbrev pub IsExport : {C : Type 0} → ℕ → Stores C → Held C × Held C → EventTable → Type 0
  IsExport count store conn whole = archives.MakesTable host_disk IsFresh count (state store conn.0) (state store conn.1) whole

  -- ---- tasks

  abbrev pub host_work : Bool → Work → Output → ToDo Status Fault
  host_work makes work out = files.file_work host_disk IsFresh makes work out

  abbrev pub host_import : Output → ToDo Status Fault
  host_import out = files.file_import host_disk IsFresh out

  abbrev pub host_whole_audit : Bool → Output → ToDo Status Fault
  host_whole_audit counts out = files.whole_audit host_disk IsFresh counts out

  abbrev pub host_audit : Bool → Bool → Output → ToDo Status Fault
  host_audit counts whole out = files.audit_with_archive host_disk IsFresh counts whole out

  abbrev pub host_prune : Bool → Output → ToDo Status Fault
  host_prune quiet out = files.prune host_disk IsFresh quiet out

  abbrev pub host_export : ℕ → Output → ToDo Status Fault
  host_export count out = files.export_with_archives host_disk IsFresh count out

  abbrev pub host_service : Service → ToDo (Unit {0}) Fault
  host_service to_serve = files.file_service host_disk IsFresh to_serve

  abbrev pub host_standby : Serving → Streams → Output → ToDo (Unit {0}) Fault
  host_standby serving io errors = files.file_standby host_disk IsFresh serving io errors

  abbrev pub host_lines : Bool → Bool → Streams → ToDo (Unit {0}) Fault
  host_lines reads ends io = files.file_lines host_disk IsFresh reads ends io

  -- over a file or, where none was named, over a desk in memory
  abbrev pub intake : {Name : Type 0} → Both (Option Name) (Option Name) → Bool × Bool → Streams → ToDo Status Fault
  intake named asked io = files.input host_disk IsFresh named.entry asked io

  abbrev pub host_task : Task → Streams → Output → ToDo Status Fault
  host_task task io errors = files.to_do host_disk IsFresh task io errors
