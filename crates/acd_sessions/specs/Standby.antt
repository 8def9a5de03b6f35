-- A standby: lines up to the order to serve, and then connections, over one desk.
use Rattle.std.specs.Prelude.{◌≡◌, ◌⊎◌, ℕ, Bool, true, false, List, ◌++◌, Option, option_map, IfSome, Result, Ok, Err}
use Rattle.std.specs.Io.KnownBytes.{Appends}
use Rattle.std.specs.Borrow.{MutBor}
use Rattle.std.specs.declared.io.Read as read
use Rattle.std.specs.declared.io.Write as write
use Rattle.sqlite.specs.State.{State}
use Rattle.sqlite.specs.Held.{Held, state}
use Rattle.sqlite_trees.specs.declared.store.Store.{Ghosts as Stores}
use Rattle.acd_book.specs.declared.book.Book.{Ghosts}
use Rattle.acd_book.specs.State.{BookState}
use Rattle.acd_terms.specs.declared.command.Arrival.{Arrival}
use Rattle.acd_desk.specs.declared.desk.Desk.{Desk}
use Rattle.acd_desk.specs.declared.taken.Taken.{Taken}
use Rattle.acd_desk.specs.Desks.ArrivalsAndReads.{Attended}
use Rattle.acd_desk.specs.Desks.DeskState.{DeskState, state_of}
use Rattle.acd_lines.specs.Lines.{LinesAnswered, EndedLines, Streams, streams, LinesDone, Output, written}
use Rattle.acd_lines.specs.Output.{whole_lines}
use Rattle.acd_lines.specs.declared.fault.LinesFault.{LinesFault}
use Rattle.acd_http.specs.declared.serving.Span.{Span}
use Rattle.acd_http.specs.LinesWithReads.{AnswersReads, arrivals_of_reads, answers_of}
use Rattle.acd_http.specs.Turns.{ServiceTurn, TurnedEach}
use Rattle.acd_http.specs.TurnRequests.{requests_handed, answers_handed}
use Rattle.acd_io.specs.RestOfInput.{input_left}
use Rattle.acd_io.specs.declared.until_order.UntilOrder.{UntilOrder}
use Rattle.acd_io.specs.Order.{before_order, has_order, mark, marked}
use Rattle.acd_sessions.specs.Desks.{OverDesk}
use Rattle.acd_sessions.specs.Faults.{lines_fault}
use Rattle.acd_sessions.specs.LinesOver.{in_turn}
use Rattle.acd_sessions.specs.Over.{Database}
use Rattle.acd_sessions.specs.ToDo.{ToDo}
use Rattle.acd_sessions.specs.DeskAsLeft.{Seen, InDatabase, SeenIn}
use Rattle.acd_sessions.specs.Serving.{ServeDone, ServiceLeaves, NoDesk, NoneMade, listening_line}
use Rattle.acd_command.specs.declared.asked.Address.{Address}
use Rattle.acd_sessions.specs.declared.fault.WorkFault.{WorkFault}
use Rattle.acd_sessions.specs.declared.serving.Serving.{Serving}
use Rattle.acd_sessions.specs.declared.fault.WorkFault.TheVariants.{NotTold}
use denote.Triple.Both.{Both}

-- ---- the lines

-- an input as a standby's reader has it: up to the order, and then the mark where there is one
abbrev pub until_order : Option (List ℕ) → Option (List ℕ)
until_order known = option_map marked known

-- the lines that had ended when the reader came to the order
abbrev pub UpToOrder : Streams → List (List ℕ) → Type 0
UpToOrder io lines = EndedLines io.old_input io.left lines × IfSome io.left (λ xs. xs ≡ mark)

-- the lines before the order, which the input has where it is known
abbrev pub LinesToOrder : Option (List ℕ) → List (List ℕ) → Type 0
LinesToOrder old_input lines = (bytes : List ℕ) × (lines ≡ whole_lines bytes) × IfSome old_input (λ input. (has_order true input ≡ true) × (bytes ≡ before_order true input))

-- why a standby ends without the order, by how its lines ended
abbrev pub untold_fault : Result (Unit {0}) LinesFault → WorkFault
untold_fault (Ok done) = NotTold
untold_fault (Err why) = lines_fault why

-- ---- a standby

-- what it is to do: a service with its span and its address; the streams of its lines, and which lines these are where the order came; and the stream of errors
pub record OrderedService : Type 1 where
  pub span : Span
  pub address : Address
  pub io : Streams
  pub IsOrdered : List (List ℕ) → Type 0
  pub old_errors : Option (List ℕ)
  pub new_errors : Option (List ℕ)

module _ {D : Type 0} (stands : D → DeskState) (to_do : OrderedService) where
  -- it could not listen: nothing was asked of the desk, and nothing written
  pub record Unheard (result : Result (Unit {0}) WorkFault) (d e : D) : Type 0 where
    pub why : WorkFault
    pub ended : result ≡ Err why
    pub same : e ≡ d
    pub quiet : to_do.new_errors ≡ to_do.old_errors
    pub unsaid : to_do.io.new_output ≡ to_do.io.old_output

  -- the order didn't come: lines were answered until they ended so, and no connection was
  pub record Untold (result : Result (Unit {0}) WorkFault) (d e : D) : Type 0 where
    pub ended : Result (Unit {0}) LinesFault
    pub lines : LinesDone stands (in_turn true stands) false to_do.io d e ended
    pub outcome : result ≡ Err (untold_fault ended)
    pub quiet : to_do.new_errors ≡ to_do.old_errors

  -- it came: all lines before it were answered, and then connections were, by the desk that the lines left
  pub record Told (result : Result (Unit {0}) WorkFault) (d e : D) : Type 0 where
    pub between : D
    pub answered : Option (List ℕ)
    pub lines : LinesAnswered to_do.IsOrdered (in_turn true stands d between) (Appends to_do.io.old_output answered)
    pub served : ServiceLeaves to_do.span to_do.old_errors to_do.new_errors to_do.address answered to_do.io.new_output stands result between e

  -- what a standby left, and the command gets how it ended
  abbrev pub StandbyLeaves : Result (Unit {0}) WorkFault → D → D → Type 0
  StandbyLeaves result d e = Unheard result d e ⊎ (Untold result d e ⊎ Told result d e)

  -- it was told, and served without a fault
  pub record StandbyDone (d e : D) : Type 0 where
    pub between : D
    pub answered : Option (List ℕ)
    pub lines : LinesAnswered to_do.IsOrdered (in_turn true stands d between) (Appends to_do.io.old_output answered)
    pub said : Appends answered to_do.io.new_output (listening_line to_do.address)
    pub served : ServeDone stands to_do.span to_do.old_errors to_do.new_errors between e

-- over a book
abbrev pub StandbyOver : {B : Type 0} → Ghosts B → BookState → OrderedService → Result (Unit {0}) WorkFault → B → Type 0
StandbyOver says old to_do result last =
    NoDesk to_do.span to_do.old_errors to_do.new_errors to_do.address to_do.io.old_output to_do.io.new_output says old result last
    ⊎ OverDesk says (StandbyLeaves (state_of says) to_do result) old last

-- over the book of a database
abbrev pub StandbyIn : {S : Type 0} → Stores S → Bool → State → OrderedService → Result (Unit {0}) WorkFault → Held S → Type 0
StandbyIn {S} store makes old to_do result new =
    NoneMade to_do.span to_do.old_errors to_do.new_errors to_do.address to_do.io.old_output to_do.io.new_output store makes old result new
    ⊎ SeenIn store (λ (stands : Seen (InDatabase S) → DeskState). StandbyLeaves stands to_do result) makes old new

-- it was told, and served without a fault, over the book of a database, or of a new one
abbrev pub StandbyServed : {S : Type 0} → Stores S → OrderedService → State → Held S → Type 0
StandbyServed {S} store to_do old new = SeenIn store (λ (stands : Seen (InDatabase S) → DeskState). StandbyDone stands to_do) true old new

-- ---- of a call

-- a standby's reader, which is fed lines, and its writer, over a call
abbrev pub fed : {R W : Type 0} → read.Ghosts R → write.Ghosts W → Both (MutBor (UntilOrder R)) (MutBor (UntilOrder R)) → Both (MutBor W) (MutBor W) → Streams
fed holds says reader writer = streams (input_left holds.remaining) says.contents (reader.entry.now, reader.exit.now) (writer.entry.now, writer.exit.now)

-- a service upon its order, by these streams
abbrev pub upon_lines : Serving → Streams → Output → OrderedService
upon_lines serving io errors = record { span = serving.span; address = serving.address; io = io; IsOrdered = UpToOrder io; old_errors = errors.before; new_errors = errors.after }

-- a standby's reader, its writer and the stream of errors, over a call
abbrev pub Fed : Type 0 → Type 0 → Type 0 → Type 0
Fed R W E = Both (MutBor (UntilOrder R)) (MutBor (UntilOrder R)) × Both (MutBor W) (MutBor W) × Both (MutBor E) (MutBor E)

-- a service upon its order, by these
abbrev pub upon : {R W E : Type 0} → Both Serving Serving → read.Ghosts R → write.Ghosts W → write.Ghosts E → Fed R W E → OrderedService
upon serving holds says faults given = upon_lines serving.entry (fed holds says given.0 given.1) (written faults given.2)

-- the streams of lines up to the order, of which so much is left
abbrev pub up_to_order : Streams → Option (List ℕ) → Streams
up_to_order io left = record {
  old_input = until_order io.old_input;
  left = left;
  old_output = io.old_output;
  new_output = io.new_output;
  unread = left ≡ until_order io.old_input;
  unwritten = io.new_output ≡ io.old_output;
}

-- so it is of an input, up to its order
abbrev pub upon_order : Span → Address → Streams → Option (List ℕ) → Option (List ℕ) × Option (List ℕ) → OrderedService
upon_order span address io left errors =
    record { span = span; address = address; io = up_to_order io left; IsOrdered = LinesToOrder io.old_input; old_errors = errors.0; new_errors = errors.1 }

-- lines were answered up to the order
abbrev pub AnsweredToOrder : {D : Type 0} → (D → DeskState) → Streams → D → D → Type 0
AnsweredToOrder stands io d e = LinesAnswered (UpToOrder io) (in_turn true stands d e) (Appends io.old_output io.new_output)

-- the order didn't come: lines ended so, and that is the fault
abbrev pub IsUntold : {D : Type 0} → (D → DeskState) → Streams → D → D → WorkFault → Type 0
IsUntold stands io d e fault = (ended : Result (Unit {0}) LinesFault) × LinesDone stands (in_turn true stands) false io d e ended × (fault ≡ untold_fault ended)

-- both
abbrev pub lines_to_order : {B : Type 0} → Ghosts B → Both (MutBor (Desk B)) (MutBor (Desk B)) → Streams → ToDo (Unit {0}) WorkFault
lines_to_order books desk io = record {
  Done = λ done. AnsweredToOrder (state_of books) io desk.entry.now desk.exit.now;
  Left = IsUntold (state_of books) io desk.entry.now desk.exit.now;
}

-- a desk stood by, from what it was to what it is then
abbrev pub StandsBy : {B : Type 0} → Ghosts B → Both (MutBor (Desk B)) (MutBor (Desk B)) → Result (Unit {0}) WorkFault → OrderedService → Type 0
StandsBy books desk result to_do = StandbyLeaves (state_of books) to_do result desk.entry.now desk.exit.now

-- a desk over a book did, with the book that came back
abbrev pub StandsByOver : {B : Type 0} → Ghosts B → B → Result (Unit {0}) WorkFault × B → OrderedService → Type 0
StandsByOver books given result to_do = StandbyOver books (books.state given) to_do result.0 result.1

-- a desk over a database that was handed in did, with the connection that came back
abbrev pub StandsByIn : {S : Type 0} → Database S → Result (Unit {0}) WorkFault × Held S → OrderedService → Type 0
StandsByIn db result to_do = StandbyIn db.store db.makes (state db.store db.conn) to_do result.0 result.1

-- ---- the run

module _ {D : Type 0} (stands : D → DeskState) where
  -- lines, and then turns
  pub record LinesThenTurns (looks : Bool) (d m e : D) : Type 0 where
    pub pieces : List (List ℕ)
    pub outs : List (List ℕ)
    pub lines : AnswersReads stands d pieces outs m
    pub turns : List ServiceTurn
    pub turned : TurnedEach stands looks m turns e

  -- the requests among the lines, and those of the turns, and the answers to them
  abbrev pub requests_in : (looks : Bool) (d m e : D) → LinesThenTurns looks d m e → List Arrival
  requests_in looks d m e p = arrivals_of_reads stands d p.pieces p.outs m p.lines ++ requests_handed stands looks m p.turns e p.turned

  abbrev pub answers_in : (looks : Bool) (d m e : D) → LinesThenTurns looks d m e → List Taken
  answers_in looks d m e p = answers_of stands d p.pieces p.outs m p.lines ++ answers_handed stands looks m p.turns e p.turned

  -- lines before the order and the connections and ticks after it are one run of one desk, in the order in which it took them
  abbrev pub StandbyLeadsToTheRun : Type 0
  StandbyLeadsToTheRun = (looks : Bool) (d m e : D) (p : LinesThenTurns looks d m e) → Attended (stands d) (requests_in looks d m e p) (answers_in looks d m e p) (stands e)
