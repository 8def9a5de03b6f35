-- Work, or lines, that a fault ended: what is left, step by step.
use Rattle.std.proofs.Common.{◌≡◌, inl, inr, ℕ, Bool, true, false, List, Option, Result, IsTrue}
use Rattle.sqlite_disk.specs.declared.Disk.{Ghosts}
use Rattle.sqlite_store.specs.declared.store.FileStore.{FileStore}
use Rattle.sqlite.specs.Held.{Held, state}
use Rattle.sqlite.specs.State.{State}
use Rattle.sqlite.specs.Files.{file_state}
use Rattle.sqlite_trees.specs.Tree.{Trees}
use Rattle.sqlite_trees.specs.declared.store.Store.{Ghosts as Stores}
use Rattle.acd_terms.specs.declared.command.Arrival.{Arrival}
use Rattle.acd_terms.specs.declared.command.Request.{Request}
use Rattle.acd_book.specs.State.{BookState}
use Rattle.acd_sqlbook.specs.declared.cache.Cache.{Cache}
use Rattle.acd_sqlbook.specs.Caches.{followed}
use Rattle.acd_sqlbook.specs.State.{book_state}
use Rattle.acd_desk.specs.declared.taken.Taken.{Taken}
use Rattle.acd_desk.specs.Desks.Opening.{Opened}
use Rattle.acd_desk.specs.Desks.DeskCalls.{Ran, IsFault}
use Rattle.acd_desk.specs.Desks.DeskState.{DeskState}
use Rattle.acd_desk.proofs.Desks.Sessions.{session_ran}
use Rattle.acd_io.specs.SentBytes.{Breaks}
use Rattle.acd_lines.specs.Lines.{LinesAnswered, FirstRequests, RequestsAnswered, Streams}
use Rattle.acd_lines.proofs.WeakerAnswers.{requests_so}
use Rattle.acd_program.specs.Commands.Ended.{IsBegunPlan, IsWorkBegun, StoppedOver, WorkStopped, WorkLeft}
use Rattle.acd_program.specs.Commands.AuditFindings.{IsFindingOf}
use Rattle.acd_sessions.specs.LinesOver.{NoneMade}
use Rattle.acd_sessions.specs.Over.{IsSession, LeavesBooks}
use Rattle.acd_sessions.specs.Sessions.{SessionLeaves, DatabaseLeaves}
use Rattle.acd_sessions.specs.ConnectionBook.{IsHeldBook, IsTaken}
use Rattle.acd_program.specs.Commands.Work.{WorkDone}
use Rattle.acd_sessions.specs.declared.fault.WorkFault.{WorkFault}
use Rattle.acd_command.specs.declared.asked.Work.{Work}
use Rattle.acd_command.specs.declared.asked.Work.TheVariants.{Import, Print, Audit}
use Rattle.acd_sessions.proofs.Over.{over_makes, session_of, over_connection}
use Rattle.acd_sessions.proofs.Called.{called, leaves_books, session_called}
use Rattle.acd_sessions.proofs.LeftDesks.{seen_made}
use Rattle.acd_sessions.proofs.BooksOfConnections.{unserved_asked, unserved_makes}

-- ---- the requests of a plan

-- a desk of the book took the first of them
pub begun_by : (old : BookState) (d e : DeskState) (requests : List Request) (old_output new_output : Option (List ℕ)) → Opened old d
    → LinesAnswered (FirstRequests requests) (RequestsAnswered (λ (l : List Arrival) (ts : List Taken). Ran d l ts e)) (Breaks old_output new_output) → IsBegunPlan requests old_output new_output old e.book
begun_by old d e requests old_output new_output opened h =
    requests_so (FirstRequests requests) (λ (l : List Arrival) (ts : List Taken). Ran d l ts e) (IsSession old e.book) (Breaks old_output new_output) (λ l ts ran. session_ran IsFault old d e l ts opened ran ran.later) h

-- over a book that came of another
begun_of : (work : Work) (old mid new : BookState) (old_output new_output : Option (List ℕ)) → IsHeldBook old mid → IsWorkBegun work old_output new_output mid new → IsWorkBegun work old_output new_output old new
begun_of (Import requests) old mid new old_output new_output of h =
    requests_so (FirstRequests requests.now) (IsSession mid new) (IsSession old new) (Breaks old_output new_output) (λ l ts s. session_of IsFault old mid new l ts of s) h
begun_of (Print printout) old mid new old_output new_output of h = h
begun_of (Audit counts ending) old mid new old_output new_output of h = h

-- as of the database that was left
begun_left : (Sound : Type 0) (new : BookState) → (new.is_sound → Sound) → (work : Work) (old : BookState) (old_output new_output : Option (List ℕ)) → IsWorkBegun work old_output new_output old new → IsWorkBegun work old_output new_output old (called new Sound)
begun_left Sound new so (Import requests) old old_output new_output h =
    requests_so (FirstRequests requests.now) (IsSession old new) (IsSession old (called new Sound)) (Breaks old_output new_output) (λ l ts s. session_called Sound new so IsFault old l ts s) h
begun_left Sound new so (Print printout) old old_output new_output h = h
begun_left Sound new so (Audit counts ending) old old_output new_output h = h

-- a disk that is clean then was so before
begun_clean : (work : Work) (old new : BookState) (old_output new_output : Option (List ℕ)) → IsWorkBegun work old_output new_output old new → new.is_clean → old.is_clean
begun_clean (Import requests) old new old_output new_output h = h.answered.2.step.clean
begun_clean (Print printout) old new old_output new_output h = absurd h
begun_clean (Audit counts ending) old new old_output new_output h = absurd h

-- ---- over a connection

-- the work over the book that was opened in the database
pub stopped_in : (work : Work) (makes : Bool) (s t : State) (mid : BookState) (cache : Cache) (failures : ℕ) (old_output new_output : Option (List ℕ))
    → ((db : Trees) → IsTrue s.is_open → s.may_leave db → db ≡ s.committed.trees) → IsTaken makes s mid
    → StoppedOver work old_output new_output mid (followed cache (book_state t failures)) → WorkStopped work makes s t old_output new_output
stopped_in work makes s t mid cache failures old_output new_output settles taken (inl none) = inl (unserved_asked makes s t mid cache failures settles taken none.0, none.1)
stopped_in work makes s t mid cache failures old_output new_output settles taken (inr begun) =
    let new : BookState = followed cache (book_state t failures) in
    inr (over_connection (IsWorkBegun work old_output new_output) (IsWorkBegun work old_output new_output) makes s t mid cache failures
    (record {
      carries = λ old of is. begun_of work old mid new old_output new_output of is;
      leaves = λ old is. begun_left (LeavesBooks t) new (leaves_books t cache failures) work old old_output new_output is;
      clean = begun_clean work mid new old_output new_output;
    })
    taken begun)

module _ {D : Type 0} {g : Ghosts D} where
  -- where it was known whether the file was new
  pub work_makes : (is_new makes : Bool) (work : Work) (conn : Held (FileStore D g)) (old_output new_output : Option (List ℕ)) → (is_new ≡ true → makes ≡ true)
      → WorkLeft is_new work conn old_output new_output → WorkLeft makes work conn old_output new_output
  work_makes is_new makes work conn old_output new_output may h = record {
    last = h.last;
    shut = h.shut;
    kept = λ reads. unserved_makes is_new makes (file_state conn) (file_state h.last) may (h.kept reads);
    left = elim h.left [
      | inl stopped ↦ inl (elim stopped [
        | inl none ↦ inl (unserved_makes is_new makes (file_state conn) (file_state h.last) may none.0, none.1)
        | inr begun ↦ inr (over_makes (IsWorkBegun work old_output new_output) is_new makes (file_state conn) (file_state h.last) may begun)
      ])
      | inr cut ↦ inr (record {
        left = cut.left;
        between = cut.between;
        done = over_makes (λ (old new : BookState). WorkDone IsFindingOf work old old_output cut.between cut.left new) is_new makes (file_state conn) (file_state h.last) may cut.done;
        printed = cut.printed;
      })
    ];
  }

-- ---- lines over a database, where it was known whether it was new

module _ {S : Type 0} (store : Stores S) (is_new makes ends : Bool) (io : Streams) (s : State) (r : Result (Unit {0}) WorkFault) (conn : Held S) (may : is_new ≡ true → makes ≡ true) where
  none_made : NoneMade store is_new io s r conn → NoneMade store makes io s r conn
  none_made none = record { why = none.why; outcome = none.outcome; unserved = unserved_makes is_new makes s (state store conn) may none.unserved; untouched = none.untouched }

  pub ended_made : (reads : Bool) → DatabaseLeaves store is_new reads ends io s r conn → DatabaseLeaves store makes reads ends io s r conn
  ended_made true (inl none) = inl (none_made none)
  ended_made true (inr some) = inr (seen_made store _ is_new makes s conn may some)
  ended_made false (inl none) = inl (none_made none)
  ended_made false (inr some) = inr (over_makes (SessionLeaves ends io r) is_new makes s (state store conn) may some)
