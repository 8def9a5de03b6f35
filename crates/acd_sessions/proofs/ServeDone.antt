-- Answering connections over a database: what it leaves, step by step.
use Rattle.std.proofs.Common.{◌≡◌, inl, inr, ℕ, Bool, true, false, List, [], Option, Result, Ok, Err, OnOk, IsTrue, Some, None, sym, subst, refl, append-nil}
use Rattle.std.proofs.KnownBytes.{Appends-nil}
use Rattle.std.specs.Io.KnownBytes.{Appends}
use Rattle.sqlite.specs.State.{State}
use Rattle.sqlite.specs.Held.{Held, state}
use Rattle.sqlite_trees.specs.Tree.{Trees}
use Rattle.sqlite_trees.specs.declared.store.Store.{Ghosts}
use Rattle.acd_sqlbook.specs.View.{BookView, book_seen}
use Rattle.acd_desk.specs.Desks.DeskState.{DeskState, state_of}
use Rattle.acd_io.specs.SentBytes.{Begins, WasSent}
use Rattle.acd_io.proofs.Sends.{begins_so}
use Rattle.acd_http.specs.declared.serving.Span.{Span}
use Rattle.acd_http.specs.Turns.{turn_lines}
use Rattle.acd_terms.proofs.Results.{ok_err}
use Rattle.acd_sessions.specs.Desks.{in_database}
use Rattle.acd_sessions.specs.Faults.{open_fault, command_result}
use Rattle.acd_sessions.specs.Over.{Unserved}
use Rattle.acd_sessions.specs.DeskAsLeft.{Seen, seen, InDatabase, left_of, SeenIn}
use Rattle.acd_sessions.specs.ConnectionBook.{IsTaken}
use Rattle.acd_sessions.specs.Serving.{PrintsServiceFaults, TurnsOf, ServeDone, listening_line, ends_failed, ListeningLeaves, ServiceLeaves, ServeOver, ServeIn}
use Rattle.acd_sessions.specs.declared.fault.WorkFault.{WorkFault}
use Rattle.acd_command.specs.declared.asked.Address.{Address}
use Rattle.acd_sessions.proofs.LeftDesks.{view, views, IsKept, serve_seen, seen_in, seen_made, seen_so}
use Rattle.acd_sessions.proofs.BooksOfConnections.{unserved_refused, unserved_makes}

-- a text that was written whole is a beginning of itself
pub begins_whole : (a b : Option (List ℕ)) (text : List ℕ) → Appends a b text → Begins a b text
begins_whole a b text h = record { front = text; rest = []; whole = sym (append-nil text); written = h }

-- and so is nothing
pub begins_none : (a : Option (List ℕ)) (text : List ℕ) → Begins a a text
begins_none a text = record { front = []; rest = text; whole = refl; written = Appends-nil a }

begun : {E : Type 0} (r : Result (Unit {0}) E) (a b : Option (List ℕ)) (text : List ℕ) → WasSent r a b text → Begins a b text
begun (Ok u) a b text h = begins_whole a b text h
begun (Err e) a b text h = begins_so a b text h

-- and so after the turns of a service
pub begins_turns : {D E : Type 0} (stands : D → DeskState) (span : Span) (d e : D) (r : Result (Unit {0}) E) (a b : Option (List ℕ)) → TurnsOf stands span d e (WasSent r a b) → TurnsOf stands span d e (Begins a b)
begins_turns stands span d e r a b h =
    (h.0, record { turns = h.1.turns; count = h.1.count; turned = h.1.turned; well = h.1.well; out = begun r a b (turn_lines 1 h.1.turns) h.1.out }, h.2)

pub printed_for : {D : Type 0} (stands : D → DeskState) (span : Span) (d e : D) (a b : Option (List ℕ)) → TurnsOf stands span d e (Begins a b) → PrintsServiceFaults a b
printed_for stands span d e a b h = (h.1.turns, h.1.out)

-- an endless service without a fault is by a desk that hasn't failed
well_for : (u : Unit {0}) (span : Option ℕ) (failed : Bool) → ◌≡◌ {A = Result (Unit {0}) WorkFault} (Ok u) (command_result (Ok tt) (ends_failed span failed)) → span ≡ None → failed ≡ false
well_for u span false outcome is = refl
well_for u None true outcome is = absurd (ok_err outcome)
well_for u (Some many) true outcome is = absurd (cc is)

module _ (span : Span) (a b : Option (List ℕ)) (address : Address) (old_output new_output : Option (List ℕ)) where
  module _ {D : Type 0} (stands : D → DeskState) where
    -- connections are waited for once the whole line is written
    pub serve_ended : (r : Result (Unit {0}) WorkFault) (d e : D) → Appends old_output new_output (listening_line address) → ListeningLeaves span a b stands r d e → ServiceLeaves span a b address old_output new_output stands r d e
    serve_ended r d e line (inl none) = inl (none, begins_whole old_output new_output (listening_line address) line)
    serve_ended r d e line (inr some) = inr (some, line)

    -- without a fault the connections were answered as was asked for
    pub serve_done : (u : Unit {0}) (d e : D) → ServiceLeaves span a b address old_output new_output stands (Ok u) d e → ServeDone stands span a b d e
    serve_done u d e (inl none) = absurd (ok_err none.0.ended)
    serve_done u d e (inr some) = record { taken = some.0.taken; well = well_for u span.connections (stands e).failed some.0.ended }

  module _ {S : Type 0} (store : Ghosts S) (s : State) (r : Result (Unit {0}) WorkFault) (conn : Held S) where
    -- over the book that was opened in the database
    pub serve_in : (makes : Bool) (taken last : BookView S) → ((db : Trees) → IsTrue s.is_open → s.may_leave db → db ≡ s.committed.trees) → IsTaken makes s (book_seen store taken) → conn ≡ last.conn
        → ServeOver span a b address old_output new_output (in_database store) (book_seen store taken) r last → ServeIn span a b address old_output new_output store makes s r conn
    serve_in makes taken last settles of back (inl none) = inl (record {
      why = open_fault none.why;
      ended = none.ended;
      unserved = subst (λ (x : Held S). Unserved makes s (state store x)) (sym back)
          (unserved_refused makes s (state store last.conn) (book_seen store taken) last.cache last.failures none.why settles of none.refused);
      quiet = none.quiet;
      unsaid = none.unsaid;
    })
    serve_in makes taken last settles of back (inr some) =
        inr (seen_in store (ServiceLeaves span a b address old_output new_output (state_of (in_database store)) r) (λ (stands : Seen (InDatabase S) → DeskState). ServiceLeaves span a b address old_output new_output stands r)
        (λ Clean began d e k h. serve_seen (state_of (in_database store)) (seen (left_of store began)) (view store) (IsKept store Clean began) (views store Clean began) d e k span a b address old_output new_output r h) makes s conn (record { taken = taken; last = last; of_old = of; over = some; back = back }))

    -- where it was known whether a new book may be made
    pub serve_made : (is_new makes : Bool) → (is_new ≡ true → makes ≡ true) → ServeIn span a b address old_output new_output store is_new s r conn → ServeIn span a b address old_output new_output store makes s r conn
    serve_made is_new makes may (inl none) =
        inl (record { why = none.why; ended = none.ended; unserved = unserved_makes is_new makes s (state store conn) may none.unserved; quiet = none.quiet; unsaid = none.unsaid })
    serve_made is_new makes may (inr some) = inr (seen_made store _ is_new makes s conn may some)

  -- without a fault the connections were answered as was asked for
  pub serve_done_in : {S : Type 0} (store : Ghosts S) (s : State) (r : Result (Unit {0}) WorkFault) (conn : Held S) (makes : Bool) → ServeIn span a b address old_output new_output store makes s r conn
      → OnOk r (SeenIn store (λ (stands : Seen (InDatabase S) → DeskState). ServeDone stands span a b) makes s conn)
  serve_done_in store s (Err e) conn makes h = tt
  serve_done_in store s (Ok u) conn makes (inl none) = absurd (ok_err none.ended)
  serve_done_in {S} store s (Ok u) conn makes (inr some) =
      seen_so store (λ (stands : Seen (InDatabase S) → DeskState). ServiceLeaves span a b address old_output new_output stands (Ok u)) (λ (stands : Seen (InDatabase S) → DeskState). ServeDone stands span a b)
      (λ stands d e h. serve_done stands u d e h) makes s conn some
