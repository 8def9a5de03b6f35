-- Answering connections over the book of a database: what it leaves, and how that ended.
use Rattle.std.specs.Prelude.{◌≡◌, ◌⊎◌, ℕ, Bool, false, List, codes, Option, Some, None, is_some, Result, Ok, Err}
use Rattle.std.specs.Io.KnownBytes.{Appends}
use Rattle.std.specs.Borrow.{MutBor}
use Rattle.std.specs.declared.io.Write as write
use Rattle.sqlite.specs.State.{State}
use Rattle.sqlite.specs.Held.{Held, state}
use Rattle.sqlite_trees.specs.declared.store.Store.{Ghosts as Stores}
use Rattle.acd_book.specs.declared.book.Book.{Ghosts}
use Rattle.acd_book.specs.State.{BookState}
use Rattle.acd_desk.specs.declared.desk.Desk.{Desk}
use Rattle.acd_desk.specs.declared.open_fault.OpenFault.{OpenFault}
use Rattle.acd_desk.specs.Desks.Opening.{Refused}
use Rattle.acd_desk.specs.Desks.DeskState.{DeskState, state_of}
use Rattle.acd_io.specs.SentBytes.{Begins}
use Rattle.acd_http.specs.declared.serving.Span.{Span}
use Rattle.acd_http.specs.Turns.{TurnsUntil, ServiceTurn, turn_lines}
use Rattle.acd_sessions.specs.Desks.{OverDesk}
use Rattle.acd_lines.specs.Lines.{Output, written}
use Rattle.acd_sessions.specs.Output.{number_line, text_line}
use Rattle.acd_command.specs.declared.asked.Address.{Address}
use Rattle.acd_command.specs.declared.asked.Address.TheVariants.{Port, Socket}
use Rattle.acd_sessions.specs.Faults.{open_fault, command_result}
use Rattle.acd_sessions.specs.Over.{Unserved}
use Rattle.acd_sessions.specs.DeskAsLeft.{Seen, InDatabase, SeenIn}
use Rattle.acd_sessions.specs.declared.fault.WorkFault.{WorkFault}
use Rattle.acd_sessions.specs.declared.serving.Serving.{Serving}
use denote.Triple.Both.{Both}

-- turns were taken, one after another, with looks between connections where there is a step: so many connections, or until the desk failed
abbrev pub TurnsOf : {D : Type 0} → (D → DeskState) → Span → D → D → (List ℕ → Type 0) → Type 0
TurnsOf stands span d e WentOut = TurnsUntil stands (is_some span.step) span.connections d e WentOut

-- they were; the lines of their faults were written, or a beginning of them
pub record ServeDone {D : Type 0} (stands : D → DeskState) (span : Span) (old_output new_output : Option (List ℕ)) (d e : D) : Type 0 where
  pub taken : TurnsOf stands span d e (Begins old_output new_output)
  -- an endless service doesn't end so where its store has failed
  pub well : span.connections ≡ None → (stands e).failed ≡ false

-- the line that says where the program waits for connections
abbrev pub listening_line : Address → List ℕ
listening_line (Port n) = number_line (codes "listening on 127.0.0.1:") n
listening_line (Socket path) = text_line (codes "listening on ") path.now

-- a failed desk is a fault of an endless service alone
abbrev pub ends_failed : Option ℕ → Bool → Bool
ends_failed (Some many) failed = false
ends_failed None failed = failed

-- `old_errors` was written of the faults of connections before, and `new_errors` is written after
module _ (span : Span) (old_errors new_errors : Option (List ℕ)) where
  module _ {D : Type 0} (stands : D → DeskState) where
    -- nothing was asked of the desk
    pub record Unasked (result : Result (Unit {0}) WorkFault) (d e : D) : Type 0 where
      pub why : WorkFault
      pub ended : result ≡ Err why
      pub same : e ≡ d
      pub quiet : new_errors ≡ old_errors

    -- so many connections were answered, or until the desk failed
    pub record Answered (result : Result (Unit {0}) WorkFault) (d e : D) : Type 0 where
      pub taken : TurnsOf stands span d e (Begins old_errors new_errors)
      pub ended : result ≡ command_result (Ok tt) (ends_failed span.connections (stands e).failed)

    -- what answering connections left, and the command gets how it ended
    abbrev pub ListeningLeaves : Result (Unit {0}) WorkFault → D → D → Type 0
    ListeningLeaves result d e = Unasked result d e ⊎ Answered result d e

  -- `old_output` was written on the output before, and `new_output` is written after
  module _ (address : Address) (old_output new_output : Option (List ℕ)) where
    -- connections are answered only after the whole line
    abbrev pub ServiceLeaves : {D : Type 0} → (D → DeskState) → Result (Unit {0}) WorkFault → D → D → Type 0
    ServiceLeaves stands result d e =
        (Unasked stands result d e × Begins old_output new_output (listening_line address))
        ⊎ (Answered stands result d e × Appends old_output new_output (listening_line address))

    module _ {B : Type 0} (says : Ghosts B) where
      -- the book made no desk, and nothing was written
      pub record NoDesk (old : BookState) (result : Result (Unit {0}) WorkFault) (last : B) : Type 0 where
        pub why : OpenFault
        pub ended : result ≡ Err (open_fault why)
        pub refused : Refused old why (says.state last)
        pub quiet : new_errors ≡ old_errors
        pub unsaid : new_output ≡ old_output

      -- answering connections over the book
      abbrev pub ServeOver : BookState → Result (Unit {0}) WorkFault → B → Type 0
      ServeOver old result last = NoDesk old result last ⊎ OverDesk says (ServiceLeaves (state_of says) result) old last

    -- there was no desk: nothing was written, and a crash leaves what it left before, or a new book
    pub record NoneMade {S : Type 0} (store : Stores S) (makes : Bool) (old : State) (result : Result (Unit {0}) WorkFault) (new : Held S) : Type 0 where
      pub why : WorkFault
      pub ended : result ≡ Err why
      pub unserved : Unserved makes old (state store new)
      pub quiet : new_errors ≡ old_errors
      pub unsaid : new_output ≡ old_output

    -- answering connections over the book of the database
    abbrev pub ServeIn : {S : Type 0} → Stores S → Bool → State → Result (Unit {0}) WorkFault → Held S → Type 0
    ServeIn {S} store makes old result new =
        NoneMade store makes old result new ⊎ SeenIn store (λ (stands : Seen (InDatabase S) → DeskState). ServiceLeaves stands result) makes old new

-- ---- of a call

-- what a service is to do, and where it writes: how long it lasts and waits, an address, the output, and the stream of errors
pub record Service : Type 1 where
  pub span : Span
  pub address : Address
  pub said : Output
  pub errors : Output

-- with two writers by the names of their parameters, which have both values
abbrev pub service : {W E : Type 0} → Both Serving Serving → write.Ghosts W → write.Ghosts E → Both (MutBor W) (MutBor W) → Both (MutBor E) (MutBor E) → Service
service serving says faults writer errors =
    record { span = serving.entry.span; address = serving.entry.address; said = written says writer; errors = written faults errors }

-- a desk answered connections, from what it was to what it is then
abbrev pub ListensBy : {B : Type 0} → Ghosts B → Both (MutBor (Desk B)) (MutBor (Desk B)) → Result (Unit {0}) WorkFault → Span → Output → Type 0
ListensBy books desk result span errors = ListeningLeaves span errors.before errors.after (state_of books) result desk.entry.now desk.exit.now

-- it did after the line that says where was written
abbrev pub ServesBy : {B : Type 0} → Ghosts B → Both (MutBor (Desk B)) (MutBor (Desk B)) → Result (Unit {0}) WorkFault → Service → Type 0
ServesBy books desk result to_do =
    ServiceLeaves to_do.span to_do.errors.before to_do.errors.after to_do.address to_do.said.before to_do.said.after (state_of books) result desk.entry.now desk.exit.now

-- a desk over a book did, with the book that came back
abbrev pub ServesOver : {B : Type 0} → Ghosts B → B → Result (Unit {0}) WorkFault × B → Service → Type 0
ServesOver books given result to_do =
    ServeOver to_do.span to_do.errors.before to_do.errors.after to_do.address to_do.said.before to_do.said.after books (books.state given) result.0 result.1

-- a desk over a database that was handed in did, with the connection that came back
abbrev pub ServesIn : {S : Type 0} → Stores S → Bool → Held S → Result (Unit {0}) WorkFault × Held S → Service → Type 0
ServesIn store makes given result to_do =
    ServeIn to_do.span to_do.errors.before to_do.errors.after to_do.address to_do.said.before to_do.said.after store makes (state store given) result.0 result.1

-- the lines of the faults of connections and ticks were written, or a beginning of them
abbrev pub PrintsServiceFaults : Option (List ℕ) → Option (List ℕ) → Type 0
PrintsServiceFaults old_output new_output = (turns : List ServiceTurn) × Begins old_output new_output (turn_lines 1 turns)
