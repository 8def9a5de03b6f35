-- Lines over a book, step by step: what a desk answered, what was printed of that, and that requests alone are a
-- session.
use Rattle.std.proofs.Common.{◌≡◌, inl, inr, ℕ, Bool, true, false, ◌&&◌, List, Option, Result, Ok, Err, IsErrAnd, OnOk, IsTrue, refl, sym, ap, subst, ◌∙◌, true≢false}
use Rattle.std.proofs.lemmas.Result.{err_from_is_err_and}
use Rattle.std.specs.Io.KnownBytes.{Appends}
use Rattle.sqlite.specs.State.{State}
use Rattle.sqlite.specs.Held.{Held, state}
use Rattle.sqlite_trees.specs.Tree.{Trees}
use Rattle.sqlite_trees.specs.declared.store.Store.{Ghosts}
use Rattle.acd_book.specs.declared.book.Book as book
use Rattle.acd_book.specs.State.{BookState}
use Rattle.acd_sqlbook.specs.View.{BookView, book_seen}
use Rattle.acd_desk.specs.declared.desk.Desk.{Desk}
use Rattle.acd_desk.specs.Desks.Opening.{Opened}
use Rattle.acd_desk.specs.Desks.DeskCalls.{IsFault}
use Rattle.acd_desk.specs.Desks.DeskState.{DeskState, state_of}
use Rattle.acd_io.specs.SentBytes.{Begins}
use Rattle.acd_terms.proofs.Results.{ok_err, same_error}
use Rattle.acd_lines.specs.Laws.{RequestsRun}
use Rattle.acd_lines.specs.Lines.{LinesAnswered, AllLines, FirstLines, RunInTurn, Streams, streams, LinesDone}
use Rattle.acd_lines.specs.declared.fault.LinesFault.{LinesFault}
use Rattle.acd_lines.proofs.WeakerAnswers.{answered_so, arrivals_so}
use Rattle.acd_sessions.specs.Faults.{lines_fault, open_fault, command_result}
use Rattle.acd_sessions.specs.Desks.{OverDesk, in_database}
use Rattle.acd_sessions.specs.LinesOver.{in_turn, Whole, LinesLeave, LinesOver, LinesIn, DatabaseAnswered}
use Rattle.acd_sessions.specs.Over.{IsSession, IsSessionTo, IsFailedSession, AnswersOver, LeavesBooks, OverConnection, Unserved}
use Rattle.acd_sessions.specs.DeskAsLeft.{Seen, seen, InDatabase, left_of}
use Rattle.acd_sessions.specs.Sessions.{AreASession, SessionLeaves, DatabaseLeaves, LinesAreSessions}
use Rattle.acd_sessions.specs.ConnectionBook.{IsHeldBook, IsTaken}
use Rattle.acd_sessions.specs.declared.fault.WorkFault.{WorkFault}
use Rattle.acd_sessions.proofs.Over.{lines_over, lines_well, lines_failed, lines_since, well_lines_since, failed_lines_since, over_connection, over_makes}
use Rattle.acd_sessions.proofs.Called.{called, leaves_books, session_called}
use Rattle.acd_sessions.proofs.LeftDesks.{view, views, IsKept, lines_ended_seen, seen_in, seen_made, seen_so}
use Rattle.acd_sessions.proofs.BooksOfConnections.{unserved_refused}

-- ---- what is printed

-- both are so, or one isn't
command_whole : (u v : Unit {0}) (a b : Bool) → ◌≡◌ {A = Result (Unit {0}) WorkFault} (Ok u) (command_result (Ok v) (a && b)) → a ≡ true → b ≡ false
command_whole u v true true h is = absurd (ok_err h)
command_whole u v true false h is = refl
command_whole u v false b h is = absurd (true≢false (sym is))

module _ {D : Type 0} (stands : D → DeskState) (T : D → D → List (List ℕ) → List (List ℕ) → Type 0) (ends : Bool) (io : Streams) where
  -- a fault of lines is the command's
  pub lines_ended_fault : (r : Result (Unit {0}) WorkFault) (why : LinesFault) (d e : D) → IsErrAnd r (λ (y : WorkFault). y ≡ lines_fault why) → LinesDone stands T ends io d e (Err why) → LinesLeave stands T ends io r d e
  lines_ended_fault r why d e is h = let p = err_from_is_err_and r is in record { ended = Err why; lines = h; outcome = p.1 ∙ ap Err p.2 }

  -- without a fault the whole input was answered
  whole_by : (u : Unit {0}) (d e : D) (ended : Result (Unit {0}) LinesFault) → ◌≡◌ {A = Result (Unit {0}) WorkFault} (Ok u) (command_result ended (ends && (stands e).failed)) → LinesDone stands T ends io d e ended → Whole stands T ends io d e
  whole_by u d e (Err why) outcome h = absurd (ok_err outcome)
  whole_by u d e (Ok v) outcome h =
      let well : ends ≡ true → (stands e).failed ≡ false = command_whole u v ends (stands e).failed outcome in
      record { answered = h.all well; well = well }

  whole_lines : (u : Unit {0}) (d e : D) → LinesLeave stands T ends io (Ok u) d e → Whole stands T ends io d e
  whole_lines u d e h = whole_by u d e h.ended h.outcome h.lines

-- ---- over a database

module _ {S : Type 0} (store : Ghosts S) where
  module _ (T : Desk (BookView S) → Desk (BookView S) → List (List ℕ) → List (List ℕ) → Type 0) (makes ends : Bool) (io : Streams) where
    -- lines over the book that was opened in it
    pub lines_in : (s : State) (taken last : BookView S) (r : Result (Unit {0}) WorkFault) (conn : Held S) → ((db : Trees) → IsTrue s.is_open → s.may_leave db → db ≡ s.committed.trees) → IsTaken makes s (book_seen store taken) → conn ≡ last.conn
        → LinesOver (in_database store) T ends io (book_seen store taken) r last → LinesIn store T makes ends io s r conn
    lines_in s taken last r conn settles of back (inl none) = inl (record {
      why = open_fault none.why;
      outcome = none.outcome;
      unserved = subst (λ (x : Held S). Unserved makes s (state store x)) (sym back)
          (unserved_refused makes s (state store last.conn) (book_seen store taken) last.cache last.failures none.why settles of none.refused);
      untouched = none.untouched;
    })
    lines_in s taken last r conn settles of back (inr some) = inr (record { taken = taken; last = last; of_old = of; over = some; back = back })

  -- reads among them, as the desk is seen
  pub seen_lines : (makes ends : Bool) (io : Streams) (s : State) (r : Result (Unit {0}) WorkFault) (conn : Held S) → LinesIn store (in_turn true (state_of (in_database store))) makes ends io s r conn → DatabaseLeaves store makes true ends io s r conn
  seen_lines makes ends io s r conn (inl none) = inl none
  seen_lines makes ends io s r conn (inr some) =
      inr (seen_in store (LinesLeave (state_of (in_database store)) (in_turn true (state_of (in_database store))) ends io r) (λ (stands : Seen (InDatabase S) → DeskState). LinesLeave stands (in_turn true stands) ends io r)
      (λ Clean began d e k h. lines_ended_seen (state_of (in_database store)) (seen (left_of store began)) (view store) (IsKept store Clean began) (views store Clean began) d e k ends io r h) makes s conn some)

  -- without a fault the whole input was answered
  pub whole_in : (makes ends : Bool) (io : Streams) (s : State) (r : Result (Unit {0}) WorkFault) (conn : Held S) → DatabaseLeaves store makes true ends io s r conn → OnOk r (DatabaseAnswered store makes true ends io s conn)
  whole_in makes ends io s (Err why) conn h = tt
  whole_in makes ends io s (Ok u) conn (inl none) = absurd (ok_err none.outcome)
  whole_in makes ends io s (Ok u) conn (inr some) =
      seen_so store (λ (stands : Seen (InDatabase S) → DeskState). LinesLeave stands (in_turn true stands) ends io (Ok u)) (λ (stands : Seen (InDatabase S) → DeskState). Whole stands (in_turn true stands) ends io)
      (λ stands d e h. whole_lines stands (in_turn true stands) ends io u d e h) makes s conn some

-- ---- requests alone

-- the session over a book that came of another
ended_since : (ends : Bool) (io : Streams) (r : Result (Unit {0}) WorkFault) (old mid new : BookState) → IsHeldBook old mid → SessionLeaves ends io r mid new → SessionLeaves ends io r old new
ended_since ends io (Ok u) old mid new of h = well_lines_since (AllLines io.old_input) (Appends io.old_output io.new_output) ends old mid new of h
ended_since ends io (Err fault) old mid new of (inl h) = inl (record { why = h.why; outcome = h.outcome; session = lines_since (FirstLines io.old_input) (Begins io.old_output io.new_output) old mid new of h.session })
ended_since ends io (Err fault) old mid new of (inr h) = inr (record { outcome = h.outcome; asked = h.asked; session = failed_lines_since (FirstLines io.old_input) (Appends io.old_output io.new_output) old mid new of h.session })

-- and as one of the database that it left
ended_left : (Sound : Type 0) (new : BookState) → (new.is_sound → Sound) → (ends : Bool) (io : Streams) (r : Result (Unit {0}) WorkFault) (old : BookState) → SessionLeaves ends io r old new → SessionLeaves ends io r old (called new Sound)
ended_left Sound new so ends io (Ok u) old h =
    arrivals_so (AllLines io.old_input) (IsSessionTo ends old new) (IsSessionTo ends old (called new Sound)) (Appends io.old_output io.new_output) (λ l ts s. (session_called Sound new so IsFault old l ts s.0, s.1)) h
ended_left Sound new so ends io (Err fault) old (inl h) = inl (record {
  why = h.why;
  outcome = h.outcome;
  session = arrivals_so (FirstLines io.old_input) (IsSession old new) (IsSession old (called new Sound)) (Begins io.old_output io.new_output) (λ l ts s. session_called Sound new so IsFault old l ts s) h.session;
})
ended_left Sound new so ends io (Err fault) old (inr h) = inr (record {
  outcome = h.outcome;
  asked = h.asked;
  session = arrivals_so (FirstLines io.old_input) (IsFailedSession old new) (IsFailedSession old (called new Sound)) (Appends io.old_output io.new_output) (λ l ts s. (session_called Sound new so IsFault old l ts s.0, s.1)) h.session;
})

-- a disk that is clean then was so before
ended_clean : (ends : Bool) (io : Streams) (r : Result (Unit {0}) WorkFault) (old new : BookState) → SessionLeaves ends io r old new → new.is_clean → old.is_clean
ended_clean ends io (Ok u) old new h = h.answered.2.0.step.clean
ended_clean ends io (Err fault) old new (inl h) = h.session.answered.2.step.clean
ended_clean ends io (Err fault) old new (inr h) = h.session.answered.2.0.step.clean

both_asked : (a b : Bool) → (a && b) ≡ true → (a ≡ true) × (b ≡ true)
both_asked true true h = (refl, refl)
both_asked true false h = absurd (true≢false (sym h))
both_asked false b h = absurd (true≢false (sym h))

module _ {B : Type 0} (says : book.Ghosts B) (runs : RequestsRun says) (ends : Bool) (io : Streams) where
  abbrev Asks : Desk B → Desk B → List (List ℕ) → List (List ℕ) → Type 0
  Asks = in_turn false (state_of says)

  ran : (P : List (List ℕ) → Type 0) (W : List ℕ → Type 0) (d e : Desk B) → LinesAnswered P (Asks d e) W → LinesAnswered P (RunInTurn says d e) W
  ran P W d e h = answered_so P (Asks d e) (RunInTurn says d e) W (runs d e) h

  -- by how the lines ended, and whether the desk has failed where that was to end them
  session_of_lines : (r : Result (Unit {0}) WorkFault) (ended : Result (Unit {0}) LinesFault) (failed : Bool) (old : BookState) (d e : Desk B) → (ends && (state_of says e).failed) ≡ failed → r ≡ command_result ended failed
      → Opened old (state_of says d) → LinesDone (state_of says) Asks ends io d e ended → SessionLeaves ends io r old (state_of says e).book
  session_of_lines (Ok u) (Err why) failed old d e is outcome o h = absurd (ok_err outcome)
  session_of_lines (Ok u) (Ok v) true old d e is outcome o h = absurd (ok_err outcome)
  session_of_lines (Ok u) (Ok v) false old d e is outcome o h =
      let well : ends ≡ true → (state_of says e).failed ≡ false = λ asked. ap (λ (b : Bool). b && (state_of says e).failed) (sym asked) ∙ is in
      lines_well (AllLines io.old_input) (Appends io.old_output io.new_output) ends old (state_of says d) (state_of says e) o well (ran (AllLines io.old_input) (Appends io.old_output io.new_output) d e (h.all well))
  session_of_lines (Err fault) (Err why) failed old d e is outcome o h = inl (record {
    why = why;
    outcome = same_error outcome;
    session = lines_over (FirstLines io.old_input) (Begins io.old_output io.new_output) old (state_of says d) (state_of says e) o (ran (FirstLines io.old_input) (Begins io.old_output io.new_output) d e h.begun);
  })
  session_of_lines (Err fault) (Ok v) true old d e is outcome o h = inr (record {
    outcome = same_error outcome;
    asked = (both_asked ends (state_of says e).failed is).0;
    session = lines_failed (FirstLines io.old_input) (Appends io.old_output io.new_output) old (state_of says d) (state_of says e) o (both_asked ends (state_of says e).failed is).1
        (ran (FirstLines io.old_input) (Appends io.old_output io.new_output) d e h.first);
  })
  session_of_lines (Err fault) (Ok v) false old d e is outcome o h = absurd (ok_err (sym outcome))

  session_of_desk : (r : Result (Unit {0}) WorkFault) (old : BookState) (last : B) → OverDesk says (LinesLeave (state_of says) Asks ends io r) old last → SessionLeaves ends io r old (says.state last)
  session_of_desk r old last h =
      subst (λ (b : B). SessionLeaves ends io r old (says.state b)) (sym h.back)
      (session_of_lines r h.did.ended (ends && (state_of says h.final).failed) old h.first h.final refl h.did.outcome h.opened h.did.lines)

pub lines_are_sessions : {S R W : Type 0} (store : Ghosts S) (remaining : R → Option (List ℕ)) (contents : W → Option (List ℕ)) → RequestsRun (in_database store) → LinesAreSessions store remaining contents
lines_are_sessions {S} store remaining contents runs makes ends reader writer r given conn h =
    let s : State = state store given in
    let io : Streams = streams remaining contents reader writer in
    let new : BookState = book_seen store h.last in
    subst (λ (x : Held S). OverConnection (SessionLeaves ends io r) makes s (state store x)) (sym h.back)
    (over_connection (SessionLeaves ends io r) (SessionLeaves ends io r) makes s (state store h.last.conn) (book_seen store h.taken) h.last.cache h.last.failures
    (record {
      carries = λ old of ended. ended_since ends io r old (book_seen store h.taken) new of ended;
      leaves = λ old ended. ended_left (LeavesBooks (state store h.last.conn)) new (leaves_books (state store h.last.conn) h.last.cache h.last.failures) ends io r old ended;
      clean = ended_clean ends io r (book_seen store h.taken) new;
    })
    h.of_old
    (session_of_desk (in_database store) runs ends io r (book_seen store h.taken) h.last h.over))

-- whole, or its beginning
pub ended_in : {S : Type 0} (store : Ghosts S) (makes ends : Bool) (io : Streams) → AreASession store makes ends io → (given : Held S) (r : Result (Unit {0}) WorkFault) (conn : Held S)
    → LinesIn store (in_turn false (state_of (in_database store))) makes ends io (state store given) r conn → DatabaseLeaves store makes false ends io (state store given) r conn
ended_in store makes ends io law given r conn (inl none) = inl none
ended_in store makes ends io law given r conn (inr some) = inr (law r given conn some)

-- without a fault the whole input was answered
pub answered_in : {S : Type 0} (store : Ghosts S) (makes reads ends : Bool) (io : Streams) (s : State) (u : Unit {0}) (conn : Held S) → DatabaseLeaves store makes reads ends io s (Ok u) conn → DatabaseAnswered store makes reads ends io s conn
answered_in store makes true ends io s u conn h = whole_in store makes ends io s (Ok u) conn h
answered_in store makes false ends io s u conn (inl none) = absurd (ok_err none.outcome)
answered_in store makes false ends io s u conn (inr some) = some

-- it was known that a new book may be made
pub answered_made : {S : Type 0} (store : Ghosts S) (is_new makes reads ends : Bool) (io : Streams) (s : State) (conn : Held S) → (is_new ≡ true → makes ≡ true) → DatabaseAnswered store is_new reads ends io s conn → DatabaseAnswered store makes reads ends io s conn
answered_made store is_new makes false ends io s conn may h = over_makes (AnswersOver ends io) is_new makes s (state store conn) may h
answered_made store is_new makes true ends io s conn may h = seen_made store _ is_new makes s conn may h
