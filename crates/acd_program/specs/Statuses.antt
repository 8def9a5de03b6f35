-- Exit statuses and their causes.
use Rattle.std.specs.Prelude.{◌≡◌, ◌≢◌, ◌⊎◌, ℕ}
use Rattle.clap.specs.declared.error.kind.ErrorKind.{ErrorKind}
use Rattle.clap.specs.declared.error.kind.ErrorKind.TheVariants.{OutOfMemory}
use Rattle.acd_log.specs.declared.ending.Ending.{Ending}
use Rattle.acd_log.specs.declared.ending.Ending.TheVariants as log
use Rattle.acd_program.specs.declared.auditing.Finding.{Finding}
use Rattle.acd_program.specs.declared.auditing.Finding.TheVariants.{Sound, Counted, SentAgainCounted}
use Rattle.acd_program.specs.declared.auditing.Finding.TheVariants as finding
use Rattle.acd_program.specs.declared.outcome.Pruning.{Pruning}
use Rattle.acd_program.specs.declared.outcome.Pruning.TheVariants as prune
use Rattle.acd_files.specs.declared.fault.LookFault.{LookFault}
use Rattle.acd_files.specs.declared.fault.LookFault.TheVariants as look
use Rattle.acd_files.specs.declared.fault.OpeningFault.{OpeningFault}
use Rattle.acd_files.specs.declared.fault.OpeningFault.TheVariants as opening
use Rattle.acd_program.specs.declared.fault.ArchiveFault.{ArchiveFault}
use Rattle.acd_program.specs.declared.fault.ArchiveFault.TheVariants as archive
use Rattle.acd_program.specs.declared.fault.Fault.{Fault}
use Rattle.acd_program.specs.declared.fault.Fault.TheVariants as fault
use Rattle.acd_program.specs.declared.status.Status.{Status}
use Rattle.acd_program.specs.declared.status.Status.TheVariants.{Success, Differs, EndsEarly, SentAgain}
use Rattle.acd_program.specs.declared.status.Exit.{Exit}
use Rattle.acd_program.specs.declared.status.Exit.TheVariants as exit
use Rattle.acd_lines.specs.Lines.{Output}
use Rattle.acd_command.specs.CommandLine.{IsHelp}
use Rattle.acd_sessions.specs.Serving.{PrintsServiceFaults}

-- no fault: success, the difference that an audit found, that a sound desk's log ends early, or that requests were sent again to one
abbrev pub IsDone : ℕ → Type 0
IsDone status = (status ≡ 0) ⊎ ((status ≡ 3) ⊎ ((status ≡ 5) ⊎ (status ≡ 6)))

-- the number of a task's status
abbrev pub status_number : Status → ℕ
status_number Success = 0
status_number Differs = 3
status_number EndsEarly = 5
status_number SentAgain = 6

-- the number that the process ends with
abbrev pub exit_number : Exit → ℕ
exit_number (exit.Done status) = status_number status
exit_number exit.Failed = 1
exit_number exit.Refused = 2
exit_number exit.OpenElsewhere = 4

-- the status of a sound content, by how the log of its file ended
abbrev pub sound_status : Ending → Status
sound_status log.Plain = Success
sound_status log.Early = EndsEarly
sound_status log.Headless = EndsEarly

-- and of one that is sound but for a request that was sent again
abbrev pub again_status : Ending → Status
again_status log.Plain = SentAgain
again_status log.Early = EndsEarly
again_status log.Headless = EndsEarly

-- the status for what an audit found
abbrev pub finding_status : Ending → Finding → Status
finding_status ending Sound = sound_status ending
finding_status ending (Counted count) = sound_status ending
finding_status ending (finding.SentAgain stamp) = again_status ending
finding_status ending (SentAgainCounted stamp count) = again_status ending
finding_status ending (finding.Differs place) = Differs

-- the status of a prune: where an audit refused it, that of the audit
abbrev pub pruning_status : Pruning → Status
pruning_status (prune.Refused found ending) = finding_status ending found
pruning_status prune.Nothing = Success
pruning_status (prune.UpTo cut) = Success

-- how a command ends by a fault: another program has the file, or not
abbrev pub look_exit : LookFault → Exit
look_exit (look.OpenElsewhere path) = exit.OpenElsewhere
look_exit (look.Path why) = exit.Failed
look_exit look.NoBytes = exit.Failed
look_exit (look.Plan why) = exit.Failed

abbrev pub opening_exit : OpeningFault → Exit
opening_exit (opening.Look why) = look_exit why
opening_exit (opening.Files why) = exit.Failed

abbrev pub archive_exit : ArchiveFault → Exit
archive_exit (archive.Opening why) = opening_exit why
archive_exit (archive.Work why) = exit.Failed

abbrev pub fault_exit : Fault → Exit
fault_exit (fault.Opening why) = opening_exit why
fault_exit (fault.Work why) = exit.Failed
fault_exit (fault.Archive why) = archive_exit why

-- nothing was printed on the stream of errors but these, if anything
abbrev pub PrintsAtMostFaults : Output → Type 0
PrintsAtMostFaults errors = errors.unwritten ⊎ PrintsServiceFaults errors.before errors.after

-- and these only where it succeeded
abbrev pub PrintsOnSuccess : Output → Status → Type 0
PrintsOnSuccess errors status = errors.unwritten ⊎ ((status ≡ Success) × PrintsServiceFaults errors.before errors.after)

-- this holds of the status of a task that no fault ended
abbrev pub IfDone : Exit → (Status → Type 0) → Type 0
IfDone (exit.Done status) Fact = Fact status
IfDone exit.Failed Fact = Unit {0}
IfDone exit.Refused Fact = Unit {0}
IfDone exit.OpenElsewhere Fact = Unit {0}

-- A command line that names no task: help was asked for, and written; or it was refused, and nothing was written on the output; or there was no memory to say so, or help wasn't written whole.
abbrev pub EndsUnasked : ErrorKind → Output → Output → Exit → Type 0
EndsUnasked kind out errors (exit.Done status) = (status ≡ Success) × IsHelp kind × errors.unwritten
EndsUnasked kind out errors exit.Refused = (kind ≢ OutOfMemory) × (¬ IsHelp kind) × out.unwritten
EndsUnasked kind out errors exit.Failed = out.unwritten ⊎ IsHelp kind
EndsUnasked kind out errors exit.OpenElsewhere = ⊥

-- where another program has the file, the reader and the writer weren't touched
abbrev pub UntouchedElsewhere : {R W : Type 0} → R → R → W → W → Fault → Type 0
UntouchedElsewhere old_reader new_reader old_writer new_writer why = fault_exit why ≡ exit.OpenElsewhere → (new_reader ≡ old_reader) × (new_writer ≡ old_writer)
