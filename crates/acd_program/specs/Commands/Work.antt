-- Work over a book, and what is left to print of it.
use Rattle.std.specs.Prelude.{◌≡◌, ℕ, Bool, List, [], Option, Some, Result, Ok, IfOk, String, string_bytes}
use Rattle.std.specs.Io.KnownBytes.{Appends}
use Rattle.acd_terms.specs.declared.command.Request.{Request}
use Rattle.acd_book.specs.Content.{Content, Within}
use Rattle.acd_book.specs.Order.{IsOrdered}
use Rattle.acd_book.specs.declared.book.Book.{Ghosts}
use Rattle.acd_book.specs.State.{BookState, IfHonest, BookStep}
use Rattle.acd_reports.specs.QueueReport.{queue_report}
use Rattle.acd_reports.specs.Export.{events_csv}
use Rattle.acd_desk.specs.Contents.SoundContent.{IsSound}
use Rattle.acd_desk.specs.Contents.CarriedContent.{Archive, together}
use Rattle.acd_desk.specs.Reads.ReadAnswers.{text_read}
use Rattle.acd_io.specs.SentBytes.{Begins, Breaks}
use Rattle.acd_lines.specs.Lines.{LinesAnswered, AllRequests, RequestsAnswered, Output}
use Rattle.acd_program.specs.Commands.AuditFindings.{IsFindingOf, HasCount, finding_line, pruning_line}
use Rattle.acd_program.specs.Statuses.{finding_status, pruning_status}
use Rattle.acd_sessions.specs.Over.{IsSession}
use Rattle.acd_sessions.specs.ToDo.{ToDo}
use Rattle.acd_log.specs.declared.ending.Ending.{Ending}
use Rattle.acd_program.specs.declared.auditing.Finding.{Finding}
use Rattle.acd_command.specs.declared.asked.Printout.{Printout}
use Rattle.acd_command.specs.declared.asked.Printout.TheVariants.{Report, Export}
use Rattle.acd_command.specs.declared.asked.Work.{Work}
use Rattle.acd_command.specs.declared.asked.Work.TheVariants.{Import, Print, Audit}
use Rattle.acd_program.specs.declared.desk.Done.{Done}
use Rattle.acd_program.specs.declared.desk.Done.TheVariants.{Nothing, Text, Audited, Pruned}
use Rattle.acd_program.specs.declared.status.Status.{Status}
use Rattle.acd_program.specs.declared.status.Status.TheVariants.{Success}

-- what is printed of a content: the queue report at the moment of the last executed request, or all events
abbrev pub printout_text : Printout → Content → List ℕ
printout_text Report c = queue_report c.rows c.rows.last_moment
printout_text Export c = events_csv c.events

-- ---- what is left to print

abbrev pub text_left : Done → List ℕ
text_left Nothing = []
text_left (Text text) = string_bytes text
text_left (Audited found ending) = finding_line ending found
text_left (Pruned pruning quiet) = pruning_line quiet pruning

-- and its exit status
abbrev pub status_left : Done → Status
status_left Nothing = Success
status_left (Text text) = Success
status_left (Audited found ending) = finding_status ending found
status_left (Pruned pruning quiet) = pruning_status pruning

-- ---- over a book

-- a desk was opened over the book and asked, and the book came back as it was: this is the finding of its content
pub record WasAsked {A : Type 0} (old : BookState) (IsAnswer : Content → A → Type 0) (found : A) (new : BookState) : Type 0 where
  pub step : BookStep ⊥ old new
  pub opened : IfHonest old new (old.is_open × new.is_open)
  pub same : IfHonest old new (new.content ≡ old.content)
  pub answer : IfHonest old new (IsAnswer old.content found)
  -- a reopening finds nothing new
  pub stops : IfHonest old new (Within new.stops old.stops)

-- of a content that is sound, by itself or with an archive, this is printed
abbrev pub IsTextOf : Printout → Content → List ℕ → Type 0
IsTextOf printout c text = (p : Archive) → IsSound (together p c) → text ≡ printout_text printout c

-- this is read of it, so that it can be printed
abbrev pub IsPrintoutOf : {Z : Type 0} → Printout → Content → Option (String Z) → Type 0
IsPrintoutOf printout c text = (p : Archive) → IsSound (together p c) → text_read text ≡ Some (printout_text printout c)

-- of a content whose records are in order, as those of tables do, this is the finding
abbrev pub IsFindingIfOrdered : Content → Finding → Type 0
IsFindingIfOrdered c found = IsOrdered c → IsFindingOf c found

-- a text of the book is left to print
pub record PrintsOver (printout : Printout) (old : BookState) (done : Done) (new : BookState) : Type 0 where
  pub asked : WasAsked old (IsTextOf printout) (text_left done) new
  pub status : status_left done ≡ Success

-- an audit of the book found this, which is left to print with how the log of its file ended before
abbrev pub AuditsOver : (Content → Finding → Type 0) → Bool → Ending → BookState → Done → BookState → Type 0
AuditsOver IsAnswer counts ending old Nothing new = ⊥
AuditsOver IsAnswer counts ending old (Text text) new = ⊥
AuditsOver IsAnswer counts ending old (Pruned pruning quiet) new = ⊥
AuditsOver IsAnswer counts ending old (Audited found end) new = HasCount counts found × WasAsked old IsAnswer found new × (end ≡ ending)

-- the requests came in at moment 0, one after the other, and one answer line was written for each; they are a session over the book
abbrev pub ImportsOver : List Request → BookState → Option (List ℕ) → Option (List ℕ) → BookState → Type 0
ImportsOver requests old old_output new_output new = LinesAnswered (AllRequests requests) (RequestsAnswered (IsSession old new)) (Appends old_output new_output)

-- the work was done; only what isn't printed after it is written
abbrev pub WorkDone : (Content → Finding → Type 0) → Work → BookState → Option (List ℕ) → Option (List ℕ) → Done → BookState → Type 0
WorkDone IsAnswer (Import requests) old old_output new_output done new = ImportsOver requests.now old old_output new_output new × (done ≡ Nothing)
WorkDone IsAnswer (Print printout) old old_output new_output done new = PrintsOver printout old done new × (new_output ≡ old_output)
WorkDone IsAnswer (Audit counts ending) old old_output new_output done new = AuditsOver IsAnswer counts ending old done new × (new_output ≡ old_output)

-- ---- of a call

-- the book was audited
abbrev pub AuditsBook : {B F : Type 0} → Ghosts B → B → Result Done F × B → Bool → Ending → Type 0
AuditsBook books given result counts ending = IfOk result.0 (λ (done : Done). AuditsOver IsFindingIfOrdered counts ending (books.state given) done (books.state result.1))

-- ---- printed

-- all that was left was printed
abbrev pub PrintsAll : Done → Output → Type 0
PrintsAll left out = Appends out.before out.after (text_left left)

-- a beginning of it was, and not all
abbrev pub PrintsPart : Done → Output → Type 0
PrintsPart left out = Breaks out.before out.after (text_left left)

-- all of it was, and the closing of the file ended without a fault
pub record IsPrinted {F : Type 0} (left : Done) (closed : Result (Unit {0}) F) (old_output new_output : Option (List ℕ)) (status : Status) : Type 0 where
  pub shut : closed ≡ Ok tt
  pub printed : Appends old_output new_output (text_left left)
  pub outcome : status ≡ status_left left

-- the printing of what was left; after a fault a beginning of it is written
abbrev pub printing : {F G : Type 0} → Done → Result (Unit {0}) F → Output → ToDo Status G
printing left closed out = record {
  Done = IsPrinted left closed out.before out.after;
  Left = λ fault. Begins out.before out.after (text_left left);
}
