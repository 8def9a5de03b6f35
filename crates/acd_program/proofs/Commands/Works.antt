-- Work over a book, by its desk, and over a connection, by its book: what it leaves.
use Rattle.std.proofs.Common.{◌≡◌, ℕ, Bool, List, Option, Some}
use Rattle.std.specs.Prelude.{String}
use Rattle.std.specs.Io.KnownBytes.{Appends}
use Rattle.acd_terms.specs.declared.command.Request.{Request}
use Rattle.acd_terms.specs.declared.command.Arrival.{Arrival}
use Rattle.acd_book.specs.Content.{Content}
use Rattle.acd_book.specs.State.{BookState}
use Rattle.acd_sqlbook.specs.declared.cache.Cache.{Cache}
use Rattle.acd_sqlbook.specs.Caches.{followed}
use Rattle.acd_sqlbook.specs.State.{book_state}
use Rattle.sqlite.specs.State.{State}
use Rattle.acd_desk.specs.declared.taken.Taken.{Taken}
use Rattle.acd_log.specs.declared.ending.Ending.{Ending}
use Rattle.acd_desk.specs.Desks.DeskState.{DeskState}
use Rattle.acd_desk.specs.Contents.SoundContent.{IsSound}
use Rattle.acd_desk.specs.Contents.CarriedContent.{Archive, together}
use Rattle.acd_desk.specs.Reads.ReadAnswers.{text_read, export_read, Rise}
use Rattle.acd_desk.proofs.Contents.AscendingEvents.{carried_rises}
use Rattle.acd_desk.specs.Desks.Opening.{Opened}
use Rattle.acd_desk.specs.Desks.DeskCalls.{Ran, IsFault}
use Rattle.acd_desk.proofs.Desks.Sessions.{session_ran}
use Rattle.acd_lines.specs.Lines.{LinesAnswered, AllRequests, RequestsAnswered}
use Rattle.acd_lines.proofs.WeakerAnswers.{requests_so}
use Rattle.acd_command.specs.declared.asked.Printout.TheVariants.{Export}
use Rattle.acd_command.specs.declared.asked.Work.{Work}
use Rattle.acd_command.specs.declared.asked.Work.TheVariants.{Import, Print, Audit}
use Rattle.acd_program.specs.declared.desk.Done.{Done}
use Rattle.acd_program.specs.declared.desk.Done.TheVariants as left
use Rattle.acd_program.specs.Commands.AuditFindings.{IsFindingOf}
use Rattle.acd_program.specs.Commands.Work.{ImportsOver, IsFindingIfOrdered, IsTextOf, AuditsOver, WorkDone, printout_text}
use Rattle.acd_sessions.specs.Over.{IsSession, LeavesBooks, OverConnection}
use Rattle.acd_sessions.specs.ConnectionBook.{IsHeldBook, IsTaken}
use Rattle.acd_sessions.proofs.Over.{session_of, over_connection}
use Rattle.acd_program.proofs.Commands.BookReads.{asked_of, asked_in_order}
use Rattle.acd_sessions.proofs.Called.{called, leaves_books, session_called}
use Rattle.acd_program.proofs.Commands.SoundElsewhere.{asked_called}

pub imports_over : (old : BookState) (d e : DeskState) (requests : List Request) (old_output new_output : Option (List ℕ)) → Opened old d
    → LinesAnswered (AllRequests requests) (RequestsAnswered (λ (l : List Arrival) (ts : List Taken). Ran d l ts e)) (Appends old_output new_output) → ImportsOver requests old old_output new_output e.book
imports_over old d e requests old_output new_output opened h =
    requests_so (AllRequests requests) (λ (l : List Arrival) (ts : List Taken). Ran d l ts e) (IsSession old e.book) (Appends old_output new_output) (λ l ts ran. session_ran IsFault old d e l ts opened ran ran.later) h

pub imports_of : (old mid new : BookState) (requests : List Request) (old_output new_output : Option (List ℕ)) → IsHeldBook old mid → ImportsOver requests mid old_output new_output new → ImportsOver requests old old_output new_output new
imports_of old mid new requests old_output new_output of h =
    requests_so (AllRequests requests) (IsSession mid new) (IsSession old new) (Appends old_output new_output) (λ l ts s. session_of IsFault old mid new l ts of s) h

audits_of : (counts : Bool) (ending : Ending) (old mid new : BookState) (done : Done) → IsHeldBook old mid → AuditsOver IsFindingIfOrdered counts ending mid done new
    → AuditsOver IsFindingOf counts ending old done new
audits_of counts ending old mid new left.Nothing of h = h
audits_of counts ending old mid new (left.Text text) of h = h
audits_of counts ending old mid new (left.Pruned pruning quiet) of h = h
audits_of counts ending old mid new (left.Audited found end) of h = (h.0, asked_in_order old mid new found of h.1, h.2)

-- the work over a book that came of another
pub work_of : (work : Work) (old mid new : BookState) (old_output new_output : Option (List ℕ)) (done : Done) → IsHeldBook old mid → WorkDone IsFindingIfOrdered work mid old_output new_output done new → WorkDone IsFindingOf work old old_output new_output done new
work_of (Import requests) old mid new old_output new_output done of h = (imports_of old mid new requests.now old_output new_output of h.0, h.1)
work_of (Print printout) old mid new old_output new_output done of h = (record { asked = asked_of old mid new _ (IsTextOf printout) of h.0.asked; status = h.0.status }, h.1)
work_of (Audit counts ending) old mid new old_output new_output done of h = (audits_of counts ending old mid new done of h.0, h.1)

-- as the database that was left
work_left : (Sound : Type 0) (new : BookState) → (new.is_sound → Sound) → (work : Work) (old : BookState) (old_output new_output : Option (List ℕ)) (done : Done) → WorkDone IsFindingOf work old old_output new_output done new
    → WorkDone IsFindingOf work old old_output new_output done (called new Sound)
work_left Sound new so (Import requests) old old_output new_output done h =
    (requests_so (AllRequests requests.now) (IsSession old new) (IsSession old (called new Sound)) (Appends old_output new_output) (λ l ts s. session_called Sound new so IsFault old l ts s) h.0, h.1)
work_left Sound new so (Print printout) old old_output new_output done h = (record { asked = asked_called Sound new so old _ (IsTextOf printout) h.0.asked; status = h.0.status }, h.1)
work_left Sound new so (Audit counts ending) old old_output new_output left.Nothing h = h
work_left Sound new so (Audit counts ending) old old_output new_output (left.Text text) h = h
work_left Sound new so (Audit counts ending) old old_output new_output (left.Pruned pruning quiet) h = h
work_left Sound new so (Audit counts ending) old old_output new_output (left.Audited found end) h = ((h.0.0, asked_called Sound new so old found IsFindingOf h.0.1, h.0.2), h.1)

-- a disk that is clean then was so before
done_clean : (work : Work) (old new : BookState) (old_output new_output : Option (List ℕ)) (done : Done) → WorkDone IsFindingIfOrdered work old old_output new_output done new → new.is_clean → old.is_clean
done_clean (Import requests) old new old_output new_output done h = h.0.answered.2.step.clean
done_clean (Print printout) old new old_output new_output done h = h.0.asked.step.clean
done_clean (Audit counts ending) old new old_output new_output left.Nothing h = absurd h.0
done_clean (Audit counts ending) old new old_output new_output (left.Text text) h = absurd h.0
done_clean (Audit counts ending) old new old_output new_output (left.Pruned pruning quiet) h = absurd h.0
done_clean (Audit counts ending) old new old_output new_output (left.Audited found end) h = h.0.1.step.clean

-- ---- over a book

-- and all events, which are in order
pub export_text : {Z : Type 0} (c : Content) (text : Option (String Z)) → (Rise 0 c.events → text_read text ≡ export_read c) → (p : Archive) → IsSound (together p c) → text_read text ≡ Some (printout_text Export c)
export_text c text h p whole = h (carried_rises p c whole)

-- ---- over a connection

-- the work over the book that the database held, or over a new one
pub database_done : (work : Work) (makes : Bool) (s t : State) (mid : BookState) (cache : Cache) (failures : ℕ) (old_output new_output : Option (List ℕ)) (d : Done) → IsTaken makes s mid
    → WorkDone IsFindingIfOrdered work mid old_output new_output d (followed cache (book_state t failures))
    → OverConnection (λ (old new : BookState). WorkDone IsFindingOf work old old_output new_output d new) makes s t
database_done work makes s t mid cache failures old_output new_output d taken h =
    let new : BookState = followed cache (book_state t failures) in
    over_connection (λ (old new : BookState). WorkDone IsFindingIfOrdered work old old_output new_output d new) (λ (old new : BookState). WorkDone IsFindingOf work old old_output new_output d new)
    makes s t mid cache failures
    (record {
      carries = λ old of done. work_of work old mid new old_output new_output d of done;
      leaves = λ old done. work_left (LeavesBooks t) new (leaves_books t cache failures) work old old_output new_output d done;
      clean = done_clean work mid new old_output new_output d;
    })
    taken h
