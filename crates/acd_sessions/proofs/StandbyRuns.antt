-- A standby over a database: what it leaves, step by step; and that its lines and its turns are one run.
use Rattle.std.proofs.Common.{◌≡◌, inl, inr, ℕ, Bool, true, false, List, [], ◌∷◌, ◌++◌, Option, Some, None, IfSome, Result, Ok, Err, OnOk, IsTrue, map, refl, sym, ap, subst, ◌∙◌}
use Rattle.std.specs.Io.KnownBytes.{Consumes}
use Rattle.sqlite.specs.State.{State}
use Rattle.sqlite.specs.Held.{Held, state}
use Rattle.sqlite_trees.specs.Tree.{Trees}
use Rattle.sqlite_trees.specs.declared.store.Store.{Ghosts}
use Rattle.acd_terms.proofs.Results.{ok_err}
use Rattle.acd_terms.specs.declared.command.Arrival.{Arrival}
use Rattle.acd_sqlbook.specs.View.{BookView, book_seen}
use Rattle.acd_desk.specs.declared.taken.Taken.{Taken}
use Rattle.acd_desk.specs.Contents.Arrivals.{arrival_at}
use Rattle.acd_desk.specs.Desks.ArrivalsAndReads.{Attended}
use Rattle.acd_desk.specs.Desks.Clock.{clock_tick, Looked}
use Rattle.acd_desk.specs.Desks.DeskState.{DeskState, state_of}
use Rattle.acd_desk.proofs.Desks.CallsInTurn.{Settles, attended_more, attended_read}
use Rattle.acd_lines.specs.Lines.{Streams, streams, LinesDone, EndedBy, Output}
use Rattle.acd_lines.specs.declared.fault.LinesFault.{LinesFault}
use Rattle.acd_lines.specs.declared.fault.LinesFault.TheVariants as lines
use Rattle.acd_http.specs.LinesWithReads.{arrivals_of_reads, answers_of, LinesLeadToTheRun}
use Rattle.acd_http.specs.Turns.{ServiceTurn, Turned, TurnedEach}
use Rattle.acd_http.specs.Turns as turn
use Rattle.acd_http.specs.TurnRequests.{ticked, handed_by, all_handed}
use Rattle.acd_http.proofs.ConnectionRuns.{arrived, replied, So, none_more, one_connection, joined}
use Rattle.acd_io.specs.RestOfInput as order
use Rattle.acd_io.specs.declared.until_order.UntilOrder.{UntilOrder}
use Rattle.acd_io.specs.Order.{before_order, has_order, mark}
use Rattle.acd_io.proofs.StopsAtOrder.{told_by}
use Rattle.acd_sessions.specs.Desks.{in_database}
use Rattle.acd_sessions.specs.Faults.{open_fault}
use Rattle.acd_sessions.specs.LinesOver.{in_turn}
use Rattle.acd_sessions.specs.Over.{Unserved}
use Rattle.acd_sessions.specs.DeskAsLeft.{Seen, seen, InDatabase, left_of, SeenIn}
use Rattle.acd_sessions.specs.Serving.{ServiceLeaves}
use Rattle.acd_sessions.specs.Standby.{UpToOrder, LinesToOrder, until_order, upon_lines, OrderedService, StandbyLeaves, StandbyDone, StandbyOver, StandbyIn, StandbyLeadsToTheRun}
use Rattle.acd_sessions.specs.ConnectionBook.{IsTaken}
use Rattle.acd_sessions.specs.declared.fault.WorkFault.{WorkFault}
use Rattle.acd_sessions.specs.declared.serving.Serving.{Serving}
use Rattle.acd_sessions.proofs.LeftDesks.{view, views, IsKept, standby_seen, seen_in, seen_made, seen_so}
use Rattle.acd_sessions.proofs.ServeDone.{serve_done}
use Rattle.acd_sessions.proofs.BooksOfConnections.{unserved_refused, unserved_makes}

-- ---- the streams of a standby's reader, as those of its input

module _ (known : Option (List ℕ)) (mine : Streams) where
  abbrev pub of_input : Streams
  of_input = record {
    old_input = until_order known;
    left = mine.left;
    old_output = mine.old_output;
    new_output = mine.new_output;
    unread = mine.left ≡ until_order known;
    unwritten = mine.new_output ≡ mine.old_output;
  }

  abbrev between_both : Option (List ℕ) → Streams
  between_both k =
      record { old_input = k; left = mine.left; old_output = mine.old_output; new_output = mine.new_output; unread = mine.left ≡ k; unwritten = mine.new_output ≡ mine.old_output }

  -- the reader has the input up to the order; what isn't read is left, and what isn't written to stays
  pub record IsFed : Type 0 where
    pub given : mine.old_input ≡ until_order known
    pub unread : mine.unread → mine.left ≡ mine.old_input
    pub unwritten : mine.unwritten → mine.new_output ≡ mine.old_output

  module _ (fed : IsFed) where
    cause_up : {D : Type 0} (T : D → D → List (List ℕ) → List (List ℕ) → Type 0) (d e : D) (why : LinesFault) → EndedBy T mine d e why → EndedBy T (between_both mine.old_input) d e why
    cause_up T d e lines.Read h = h
    cause_up T d e lines.Write h = h
    cause_up T d e lines.NoMemory h = ((fed.unread h.0.0, fed.unwritten h.0.1), h.1)

    lines_between : {D : Type 0} (stands : D → DeskState) (T : D → D → List (List ℕ) → List (List ℕ) → Type 0) (d e : D) (r : Result (Unit {0}) LinesFault)
        → LinesDone stands T false mine d e r → LinesDone stands T false (between_both mine.old_input) d e r
    lines_between stands T d e (Ok u) h = record { all = h.all; first = h.first; begun = tt; cause = tt }
    lines_between stands T d e (Err why) h = record { all = tt; first = tt; begun = h.begun; cause = cause_up T d e why h.cause }

    lines_up : {D : Type 0} (stands : D → DeskState) (T : D → D → List (List ℕ) → List (List ℕ) → Type 0) (d e : D) (r : Result (Unit {0}) LinesFault)
        → LinesDone stands T false mine d e r → LinesDone stands T false of_input d e r
    lines_up stands T d e r h = subst (λ (k : Option (List ℕ)). LinesDone stands T false (between_both k) d e r) fed.given (lines_between stands T d e r h)

    -- the reader came to the order, and so did the input
    came_to : (bytes : List ℕ) → Consumes mine.old_input mine.left bytes → IfSome mine.left (λ xs. xs ≡ mark)
        → IfSome known (λ input. (has_order true input ≡ true) × (bytes ≡ before_order true input))
    came_to bytes read order = by known mine.left (subst (λ (k : Option (List ℕ)). Consumes k mine.left bytes) fed.given read) order
      where
        by : (known left : Option (List ℕ)) → Consumes (until_order known) left bytes → IfSome left (λ xs. xs ≡ mark)
            → IfSome known (λ input. (has_order true input ≡ true) × (bytes ≡ before_order true input))
        by None left read order = tt
        by (Some input) None read order = absurd read
        by (Some input) (Some ys) read order = told_by input bytes (read ∙ ap (λ (l : List ℕ). bytes ++ l) order)

    ordered_up : (ls : List (List ℕ)) → UpToOrder mine ls → LinesToOrder known ls
    ordered_up ls h = (h.0.0, h.0.2, came_to h.0.0 h.0.1 h.1)

-- so does the reader that hands on another one's input up to the order
pub fed_by : {R W : Type 0} (remaining : R → Option (List ℕ)) (contents : W → Option (List ℕ)) (known : Option (List ℕ)) (l : UntilOrder R × UntilOrder R) (w : W × W)
    → order.input_left remaining l.0 ≡ until_order known → IsFed known (streams (order.input_left remaining) contents l w)
fed_by remaining contents known l w given = record { given = given; unread = λ same. ap (order.input_left remaining) same; unwritten = λ same. ap contents same }

module _ (serving : Serving) (known : Option (List ℕ)) (mine : Streams) (errors : Output) where
  abbrev pub by_input : OrderedService
  by_input = record {
    span = serving.span;
    address = serving.address;
    io = of_input known mine;
    IsOrdered = LinesToOrder known;
    old_errors = errors.before;
    new_errors = errors.after;
  }

  module _ (fed : IsFed known mine) where
    ended_up : {D : Type 0} (stands : D → DeskState) (r : Result (Unit {0}) WorkFault) (d e : D)
        → StandbyLeaves stands (upon_lines serving mine errors) r d e → StandbyLeaves stands by_input r d e
    ended_up stands r d e (inl h) = inl (record { why = h.why; ended = h.ended; same = h.same; quiet = h.quiet; unsaid = h.unsaid })
    ended_up stands r d e (inr (inl h)) =
        inr (inl (record { ended = h.ended; lines = lines_up known mine fed stands (in_turn true stands) d e h.ended h.lines; outcome = h.outcome; quiet = h.quiet }))
    ended_up stands r d e (inr (inr h)) = inr (inr (record {
      between = h.between;
      answered = h.answered;
      lines = record { taken = h.lines.taken; answers = h.lines.answers; picked = ordered_up known mine fed h.lines.taken h.lines.picked; answered = h.lines.answered; out = h.lines.out };
      served = h.served;
    }))

    standby_up : {S : Type 0} (store : Ghosts S) (makes : Bool) (s : State) (r : Result (Unit {0}) WorkFault) (conn : Held S)
        → StandbyIn store makes s (upon_lines serving mine errors) r conn → StandbyIn store makes s by_input r conn
    standby_up store makes s r conn (inl none) = inl none
    standby_up {S} store makes s r conn (inr some) =
        inr (seen_so store (λ (stands : Seen (InDatabase S) → DeskState). StandbyLeaves stands (upon_lines serving mine errors) r)
        (λ (stands : Seen (InDatabase S) → DeskState). StandbyLeaves stands by_input r) (λ stands d e h. ended_up stands r d e h) makes s conn some)

-- ---- over a database

module _ (to_do : OrderedService) where
  module _ {S : Type 0} (store : Ghosts S) (s : State) (r : Result (Unit {0}) WorkFault) (conn : Held S) where
    -- over the book that was opened in it
    pub standby_in : (makes : Bool) (taken last : BookView S) → ((db : Trees) → IsTrue s.is_open → s.may_leave db → db ≡ s.committed.trees) → IsTaken makes s (book_seen store taken) → conn ≡ last.conn
        → StandbyOver (in_database store) (book_seen store taken) to_do r last → StandbyIn store makes s to_do r conn
    standby_in makes taken last settles of back (inl none) = inl (record {
      why = open_fault none.why;
      ended = none.ended;
      unserved = subst (λ (x : Held S). Unserved makes s (state store x)) (sym back)
          (unserved_refused makes s (state store last.conn) (book_seen store taken) last.cache last.failures none.why settles of none.refused);
      quiet = none.quiet;
      unsaid = none.unsaid;
    })
    standby_in makes taken last settles of back (inr some) =
        inr (seen_in store (StandbyLeaves (state_of (in_database store)) to_do r) (λ (stands : Seen (InDatabase S) → DeskState). StandbyLeaves stands to_do r)
        (λ Clean began d e k h. standby_seen (state_of (in_database store)) (seen (left_of store began)) (view store) (IsKept store Clean began) (views store Clean began) d e k to_do r h) makes s conn (record { taken = taken; last = last; of_old = of; over = some; back = back }))

    -- where it was known whether a new book may be made
    pub standby_made : (is_new makes : Bool) → (is_new ≡ true → makes ≡ true) → StandbyIn store is_new s to_do r conn → StandbyIn store makes s to_do r conn
    standby_made is_new makes may (inl none) =
        inl (record { why = none.why; ended = none.ended; unserved = unserved_makes is_new makes s (state store conn) may none.unserved; quiet = none.quiet; unsaid = none.unsaid })
    standby_made is_new makes may (inr some) = inr (seen_made store _ is_new makes s conn may some)

  -- without a fault it was told, and served
  standby_done : {D : Type 0} (stands : D → DeskState) (u : Unit {0}) (d e : D) → StandbyLeaves stands to_do (Ok u) d e → StandbyDone stands to_do d e
  standby_done stands u d e (inl h) = absurd (ok_err h.ended)
  standby_done stands u d e (inr (inl h)) = absurd (ok_err h.outcome)
  standby_done stands u d e (inr (inr h)) = by h.served
    where
      by : ServiceLeaves to_do.span to_do.old_errors to_do.new_errors to_do.address h.answered to_do.io.new_output stands (Ok u) h.between e → StandbyDone stands to_do d e
      by (inl none) = absurd (ok_err none.0.ended)
      by (inr some) = record {
        between = h.between;
        answered = h.answered;
        lines = h.lines;
        said = some.1;
        served = serve_done to_do.span to_do.old_errors to_do.new_errors to_do.address h.answered to_do.io.new_output stands u h.between e (inr some);
      }

  pub standby_done_in : {S : Type 0} (store : Ghosts S) (s : State) (r : Result (Unit {0}) WorkFault) (conn : Held S) (makes : Bool) → StandbyIn store makes s to_do r conn
      → OnOk r (SeenIn store (λ (stands : Seen (InDatabase S) → DeskState). StandbyDone stands to_do) makes s conn)
  standby_done_in store s (Err e) conn makes h = tt
  standby_done_in store s (Ok u) conn makes (inl none) = absurd (ok_err none.ended)
  standby_done_in {S} store s (Ok u) conn makes (inr some) =
      seen_so store (λ (stands : Seen (InDatabase S) → DeskState). StandbyLeaves stands to_do (Ok u)) (λ (stands : Seen (InDatabase S) → DeskState). StandbyDone stands to_do)
      (λ stands d e h. standby_done stands u d e h) makes s conn some

-- by the reader that the standby's reader reads
pub standby_of_reader : (serving : Serving) (known : Option (List ℕ)) (mine : Streams) (errors : Output) → IsFed known mine → {S : Type 0} (store : Ghosts S) (is_new : Bool)
    → (is_new ≡ true → true ≡ true) → (s : State) (r : Result (Unit {0}) WorkFault) (conn : Held S) → StandbyIn store is_new s (upon_lines serving mine errors) r conn
    → StandbyIn store true s (by_input serving known mine errors) r conn
standby_of_reader serving known mine errors fed store is_new may s r conn h =
    standby_made (by_input serving known mine errors) store s r conn is_new true may (standby_up serving known mine errors fed store is_new s r conn h)

-- ---- one run

module _ {D : Type 0} (stands : D → DeskState) (settles : (d : D) → Settles (stands d)) where
  -- a look, at which a tick was handed in or none
  one_look : (s d e : D) (l : List Arrival) (ts : List Taken) (moment : ℕ) (taken : Option Taken) → Looked moment (stands d) taken (stands e)
      → Attended (stands s) l ts (stands d) → So stands settles s l ts (ticked moment taken) e
  one_look s d e l ts moment None h before =
      none_more stands settles s e e l ts refl (attended_read (stands s) (stands d) (stands e) l ts _ _ before h.read)
  one_look s d e l ts moment (Some t) h before = attended_more (stands s) (stands d) (stands e) l ts (arrival_at moment (clock_tick moment)) t (settles e) before h.took

  module _ (looks : Bool) where
    one_turn : (s d e : D) (l : List Arrival) (ts : List Taken) (x : ServiceTurn) (v : Turned stands looks d x e) → Attended (stands s) l ts (stands d) → So stands settles s l ts (handed_by stands looks d x e v) e
    one_turn s d e l ts (turn.answered x) v before = one_connection stands settles s d e l ts x v before
    one_turn s d e l ts (turn.looked taken told) v before = one_look s d e l ts v.1.moment taken v.1.looked before

    -- turns after what was attended to before
    turns_after : (s d e : D) (l : List Arrival) (ts : List Taken) (xs : List ServiceTurn) (h : TurnedEach stands looks d xs e) → Attended (stands s) l ts (stands d) → So stands settles s l ts (all_handed stands looks d xs e h) e
    turns_after s d e l ts [] h before = none_more stands settles s d e l ts h before
    turns_after s d e l ts (x ∷ xs) h before =
        let p = handed_by stands looks d x h.0 h.1 in
        let q = all_handed stands looks h.0 xs e h.2 in
        let rest = turns_after s h.0 e (l ++ map arrived p) (ts ++ map replied p) xs h.2 (one_turn s d h.0 l ts x h.1 before) in
        subst (λ (y : List Arrival). Attended (stands s) y (ts ++ map replied (p ++ q)) (stands e)) (joined stands settles arrived l p q)
        (subst (λ (z : List Taken). Attended (stands s) ((l ++ map arrived p) ++ map arrived q) z (stands e)) (joined stands settles replied ts p q) rest)

  pub standby_leads : LinesLeadToTheRun stands → StandbyLeadsToTheRun stands
  standby_leads law looks d m e p =
      turns_after looks d m e (arrivals_of_reads stands d p.pieces p.outs m p.lines) (answers_of stands d p.pieces p.outs m p.lines) p.turns p.turned (law d m p.pieces p.outs p.lines)
