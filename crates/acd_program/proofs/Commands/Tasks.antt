-- A task was done, by the work over a connection to files.
use Rattle.std.proofs.Common.{◌≡◌, ℕ, Bool, true, false, List, [], Option, ap, subst, ◌∙◌}
use Rattle.std.specs.Io.KnownBytes.{Appends}
use Rattle.sqlite_disk.specs.declared.Disk.{Ghosts}
use Rattle.sqlite_store.specs.declared.store.FileStore.{FileStore}
use Rattle.sqlite.specs.Held.{Held}
use Rattle.sqlite.specs.State.{State}
use Rattle.sqlite.specs.Files.{file_state}
use Rattle.acd_terms.specs.declared.command.Request.{Request}
use Rattle.acd_book.specs.State.{BookState}
use Rattle.acd_log.specs.declared.ending.Ending.{Ending}
use Rattle.acd_program.specs.declared.auditing.Finding.{Finding}
use Rattle.acd_command.specs.declared.asked.Printout.{Printout}
use Rattle.acd_command.specs.declared.asked.Work.{Work}
use Rattle.acd_command.specs.declared.asked.Work.TheVariants as book
use Rattle.acd_program.specs.declared.desk.Done.{Done}
use Rattle.acd_program.specs.declared.desk.Done.TheVariants.{Nothing, Text, Audited, Pruned}
use Rattle.acd_program.specs.declared.status.Status.{Status}
use Rattle.acd_program.specs.declared.status.Status.TheVariants.{Success}
use Rattle.acd_program.specs.Commands.AuditFindings.{IsFindingOf, HasCount, finding_line}
use Rattle.acd_lines.specs.Lines.{AllRequests, RequestsAnswered, Streams}
use Rattle.acd_lines.proofs.WeakerAnswers.{out_so}
use Rattle.acd_sessions.specs.Over.{IsSession, OverConnection}
use Rattle.acd_program.specs.Commands.Work.{WasAsked, IsTextOf, ImportsOver, AuditsOver, WorkDone, text_left, status_left}
use Rattle.acd_program.specs.Commands.InFiles.{WorkedOver, InFile}
use Rattle.acd_program.specs.Commands.Tasks.{WorkedIn, AuditedIn, WholeAudit}
use Rattle.acd_program.specs.Commands.TasksEnded.{TaskDone}
use Rattle.acd_command.specs.declared.asked.Task.TheVariants as task
use Rattle.acd_sessions.proofs.Over.{over_so, over_fact, over_makes}
use Rattle.acd_program.proofs.Commands.InFiles.{appends_nothing}

imports_printed : (requests : List Request) (old new : BookState) (old_output between new_output : Option (List ℕ)) → Appends between new_output [] → ImportsOver requests old old_output between new → ImportsOver requests old old_output new_output new
imports_printed requests old new old_output between new_output none h =
    out_so (AllRequests requests) (RequestsAnswered (IsSession old new)) (Appends old_output between) (Appends old_output new_output) (λ text written. appends_nothing old_output between new_output text written none) h

nothing_left : (left : Done) (between new_output : Option (List ℕ)) → left ≡ Nothing → Appends between new_output (text_left left) → Appends between new_output []
nothing_left left between new_output is h = subst (λ (x : Done). Appends between new_output (text_left x)) is h

-- the text that an audit left to print
found_left : (counts : Bool) (ending : Ending) (old_output between : Option (List ℕ)) (makes : Bool) (s t : State) (left : Done)
    → OverConnection (λ (old new : BookState). AuditsOver IsFindingOf counts ending old left new × (between ≡ old_output)) makes s t
    → (found : Finding) × (left ≡ Audited found ending) × HasCount counts found × OverConnection (λ (old new : BookState). WasAsked old IsFindingOf found new) makes s t
found_left counts ending old_output between makes s t Nothing h =
    absurd (over_fact (λ (old new : BookState). AuditsOver IsFindingOf counts ending old Nothing new × (between ≡ old_output)) ⊥ makes s t (λ old new p. p.0) h)
found_left counts ending old_output between makes s t (Text text) h =
    absurd (over_fact (λ (old new : BookState). AuditsOver IsFindingOf counts ending old (Text text) new × (between ≡ old_output)) ⊥ makes s t (λ old new p. p.0) h)
found_left counts ending old_output between makes s t (Pruned pruning quiet) h =
    absurd (over_fact (λ (old new : BookState). AuditsOver IsFindingOf counts ending old (Pruned pruning quiet) new × (between ≡ old_output)) ⊥ makes s t (λ old new p. p.0) h)
found_left counts ending old_output between makes s t (Audited found end) h =
    let P : BookState → BookState → Type 0 = λ old new. AuditsOver IsFindingOf counts ending old (Audited found end) new × (between ≡ old_output) in (
      found,
      ap (Audited found) (over_fact P (end ≡ ending) makes s t (λ old new p. p.0.2) h),
      over_fact P (HasCount counts found) makes s t (λ old new p. p.0.0) h,
      over_so P (λ old new. WasAsked old IsFindingOf found new) makes s t (λ old new p. p.0.1) h,
    )

module _ {D : Type 0} (disk : Ghosts D) (IsFresh : Bool → D → Type 0) (old_output new_output : Option (List ℕ)) (status : Status) where
  pub import_done : (makes : Bool) (requests : _) → WorkedIn disk IsFresh makes (book.Import requests) old_output new_output status
      → InFile disk IsFresh (λ (old new : BookState). ImportsOver requests.now old old_output new_output new) makes × (status ≡ Success)
  import_done makes requests h =
      let w = h.2 in
      let s = file_state h.0 in
      let t = file_state w.last in
      let P : BookState → BookState → Type 0 = λ old new. WorkDone IsFindingOf (book.Import requests) old old_output w.between w.left new in
      let left = over_fact P (w.left ≡ Nothing) makes s t (λ old new p. p.1) w.done in (
        record {
          conn = h.0;
          last = w.last;
          opened = h.1;
          done = over_so P (λ old new. ImportsOver requests.now old old_output new_output new) makes s t
              (λ old new p. imports_printed requests.now old new old_output w.between new_output (nothing_left w.left w.between new_output left w.printed) p.0) w.done;
          closed = w.closed;
        },
        w.outcome ∙ ap status_left left,
      )

  pub printout_done : (makes : Bool) (printout : Printout) → WorkedIn disk IsFresh makes (book.Print printout) old_output new_output status
      → (text : List ℕ) × InFile disk IsFresh (λ (old new : BookState). WasAsked old (IsTextOf printout) text new) makes × Appends old_output new_output text × (status ≡ Success)
  printout_done makes printout h =
      let w = h.2 in
      let s = file_state h.0 in
      let t = file_state w.last in
      let P : BookState → BookState → Type 0 = λ old new. WorkDone IsFindingOf (book.Print printout) old old_output w.between w.left new in
      let same = over_fact P (w.between ≡ old_output) makes s t (λ old new p. p.1) w.done in (
        text_left w.left,
        record {
          conn = h.0;
          last = w.last;
          opened = h.1;
          done = over_so P (λ old new. WasAsked old (IsTextOf printout) (text_left w.left) new) makes s t (λ old new p. p.0.asked) w.done;
          closed = w.closed;
        },
        subst (λ (a : Option (List ℕ)). Appends a new_output (text_left w.left)) same w.printed,
        w.outcome ∙ over_fact P (status_left w.left ≡ Success) makes s t (λ old new p. p.0.status) w.done,
      )

  pub audit_done : (counts : Bool) (ending : Ending) → WorkedIn disk IsFresh false (book.Audit counts ending) old_output new_output status → AuditedIn disk IsFresh counts ending old_output new_output status
  audit_done counts ending h =
      let w = h.2 in
      let s = file_state h.0 in
      let t = file_state w.last in
      let P : BookState → BookState → Type 0 = λ old new. WorkDone IsFindingOf (book.Audit counts ending) old old_output w.between w.left new in
      let same = over_fact P (w.between ≡ old_output) false s t (λ old new p. p.1) w.done in
      let found = found_left counts ending old_output w.between false s t w.left w.done in
      record {
        found = found.0;
        counted = found.2;
        done = record { conn = h.0; last = w.last; opened = h.1; done = found.3; closed = w.closed };
        printed = subst (λ (a : Option (List ℕ)). Appends a new_output (finding_line ending found.0)) same (subst (λ (x : Done). Appends w.between new_output (text_left x)) found.1 w.printed);
        outcome = w.outcome ∙ ap status_left found.1;
      }

-- where it was known whether the file was new
pub worked_in : {D : Type 0} {g : Ghosts D} (is_new makes : Bool) (work : Work) (conn : Held (FileStore D g)) (old_output new_output : Option (List ℕ)) (status : Status) → (is_new ≡ true → makes ≡ true)
    → WorkedOver is_new work conn old_output new_output status → WorkedOver makes work conn old_output new_output status
worked_in is_new makes work conn old_output new_output status may w = record {
  last = w.last;
  left = w.left;
  between = w.between;
  done = over_makes (λ (old new : BookState). WorkDone IsFindingOf work old old_output w.between w.left new) is_new makes (file_state conn) (file_state w.last) may w.done;
  closed = w.closed;
  printed = w.printed;
  outcome = w.outcome;
}

-- ---- by what the command line asks for

module _ {D : Type 0} (disk : Ghosts D) (IsFresh : Bool → D → Type 0) (io : Streams) (old_errors new_errors : Option (List ℕ)) where
  pub read_done : (file : _) (work : Work) (status : Status) → WorkedIn disk IsFresh false work io.old_output io.new_output status → TaskDone disk IsFresh (task.Read file work) io old_errors new_errors status
  read_done file (book.Import requests) status h = import_done disk IsFresh io.old_output io.new_output status false requests h
  read_done file (book.Print printout) status h = printout_done disk IsFresh io.old_output io.new_output status false printout h
  read_done file (book.Audit counts ending) status h = audit_done disk IsFresh io.old_output io.new_output status counts ending h

  pub whole_done : (file : _) (counts : Bool) (status : Status) → WholeAudit disk IsFresh counts io.old_output io.new_output status → TaskDone disk IsFresh (task.AuditWhole file counts) io old_errors new_errors status
  whole_done file counts status h = (h.0, h.1, audit_done disk IsFresh io.old_output io.new_output status counts h.0 h.2)
