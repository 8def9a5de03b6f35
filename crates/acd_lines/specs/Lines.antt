-- The answers: how many of the questions were answered, one answer line for each of these, and how much of these lines was written; and how that ended.
use Rattle.std.specs.Prelude.{◌≡◌, ℕ, Bool, true, false, List, map, take, Option, Result, IfErr, OnOk, OnErr, MatchResult}
use Rattle.std.specs.Borrow.{MutBor}
use Rattle.std.specs.List.{concat}
use Rattle.std.specs.Io.KnownBytes.{Appends, Consumes}
use Rattle.std.specs.declared.io.Read as read
use Rattle.std.specs.declared.io.Write as write
use Rattle.acd_terms.specs.declared.command.Request.{Request}
use Rattle.acd_terms.specs.declared.command.Arrival.{Arrival}
use Rattle.acd_book.specs.declared.book.Book.{Ghosts}
use Rattle.acd_desk.specs.declared.desk.Desk.{Desk}
use Rattle.acd_desk.specs.declared.taken.Taken.{Taken}
use Rattle.acd_desk.specs.Contents.Arrivals.{arrival_at}
use Rattle.acd_desk.specs.Desks.DeskCalls.{DeskRan, DeskState, state_of}
use Rattle.acd_lines.specs.declared.fault.LinesFault.{LinesFault}
use Rattle.acd_lines.specs.declared.fault.LinesFault.TheVariants.{Read, Write, NoMemory}
use Rattle.acd_lines.specs.Input.{cut, lines_of, arrivals_in}
use Rattle.acd_io.specs.Streams.{IsInput}
use Rattle.acd_io.specs.SentBytes.{Begins, Breaks}
use Rattle.acd_lines.specs.Output.{whole_lines, AnswerLines, imported}
use denote.Triple.Both.{Both}

-- ---- streams over a call

-- a reader and a writer over a call: what the reader held and has left, what the writer had before and has after, each where that is known; that the reader wasn't touched, and that the writer wasn't
pub record Streams : Type 1 where
  pub old_input : Option (List ℕ)
  pub left : Option (List ℕ)
  pub old_output : Option (List ℕ)
  pub new_output : Option (List ℕ)
  pub unread : Type 0
  pub unwritten : Type 0

-- neither of the two was touched
abbrev pub Untouched : Streams → Type 0
Untouched io = io.unread × io.unwritten

-- by each of the two as it was before the call, and as it is after
abbrev pub streams : {R W : Type 0} → (R → Option (List ℕ)) → (W → Option (List ℕ)) → R × R → W × W → Streams
streams remaining contents reader writer = record {
  old_input = remaining reader.0;
  left = remaining reader.1;
  old_output = contents writer.0;
  new_output = contents writer.1;
  unread = reader.1 ≡ reader.0;
  unwritten = writer.1 ≡ writer.0;
}

-- by the names of their parameters, which have both values
abbrev pub streamed : {R W : Type 0} → read.Ghosts R → write.Ghosts W → Both (MutBor R) (MutBor R) → Both (MutBor W) (MutBor W) → Streams
streamed holds says reader writer = record {
  old_input = holds.remaining reader.entry.now;
  left = holds.remaining reader.exit.now;
  old_output = says.contents writer.entry.now;
  new_output = says.contents writer.exit.now;
  unread = reader.exit.now ≡ reader.entry.now;
  unwritten = writer.exit.now ≡ writer.entry.now;
}

-- neither of the two was touched
abbrev pub AreUntouched : {R W : Type 0} → Both (MutBor R) (MutBor R) → Both (MutBor W) (MutBor W) → Type 0
AreUntouched reader writer = (reader.exit.now ≡ reader.entry.now) × (writer.exit.now ≡ writer.entry.now)

-- what a writer had before the call and has after it, each where that is known; and that it wasn't touched
pub record Output : Type 1 where
  pub before : Option (List ℕ)
  pub after : Option (List ℕ)
  pub unwritten : Type 0

-- by the writer as it was before the call, and as it is after
abbrev pub output : {W : Type 0} → (W → Option (List ℕ)) → W → W → Output
output contents old new = record { before = contents old; after = contents new; unwritten = new ≡ old }

-- by the name of a parameter
abbrev pub written : {W : Type 0} → write.Ghosts W → Both (MutBor W) (MutBor W) → Output
written says writer = record { before = says.contents writer.entry.now; after = says.contents writer.exit.now; unwritten = writer.exit.now ≡ writer.entry.now }

-- where it is known what it had: it wasn't touched if it has that still
abbrev pub output_between : Option (List ℕ) → Option (List ℕ) → Output
output_between before after = record { before = before; after = after; unwritten = after ≡ before }

-- the writer of these two
abbrev pub output_of : Streams → Output
output_of io = record { before = io.old_output; after = io.new_output; unwritten = io.unwritten }

-- ---- what was answered

-- the questions answered, and their answer lines: how many these are, how they were answered, and how the lines were
-- written
pub record LinesAnswered {A : Type 0} (Picked : List A → Type 0) (Answered : List A → List (List ℕ) → Type 0) (WentOut : List ℕ → Type 0) : Type 0 where
  pub taken : List A
  pub answers : List (List ℕ)
  pub picked : Picked taken
  pub answered : Answered taken answers
  pub out : WentOut (concat answers)

-- ---- how many were answered

-- the lines of the whole input, which is what the reader held where that is known
abbrev pub AllLines : Option (List ℕ) → List (List ℕ) → Type 0
AllLines old_input lines = (input : List ℕ) × IsInput old_input input × (lines ≡ cut input)

-- so many of them from the first on
abbrev pub FirstLines : Option (List ℕ) → List (List ℕ) → Type 0
FirstLines old_input lines = (input : List ℕ) × (n : ℕ) × IsInput old_input input × (lines ≡ take n (cut input))

-- those that ended in what was read
abbrev pub EndedLines : Option (List ℕ) → Option (List ℕ) → List (List ℕ) → Type 0
EndedLines old_input left lines = (bytes : List ℕ) × Consumes old_input left bytes × (lines ≡ whole_lines bytes)

-- all requests of a plan
abbrev pub AllRequests : List Request → List Request → Type 0
AllRequests plan requests = requests ≡ plan

-- so many of them from the first on
abbrev pub FirstRequests : List Request → List Request → Type 0
FirstRequests plan requests = (n : ℕ) × (requests ≡ take n plan)

-- ---- how it was answered

-- each line by an answer line, and of the arrivals among the lines and their answers this is said
abbrev pub ArrivalsAnswered : (List Arrival → List Taken → Type 0) → List (List ℕ) → List (List ℕ) → Type 0
ArrivalsAnswered Said lines outs = (answers : List Taken) × AnswerLines (lines_of lines) answers outs × Said (arrivals_in (lines_of lines)) answers

-- the same of the requests of a plan, which come in at moment 0
abbrev pub RequestsAnswered : (List Arrival → List Taken → Type 0) → List Request → List (List ℕ) → Type 0
RequestsAnswered Said requests outs = (answers : List Taken) × AnswerLines (imported requests) answers outs × Said (map (arrival_at 0) requests) answers

-- the desk has run over them
abbrev pub HasRun : {B : Type 0} → Ghosts B → Desk B → Desk B → List Arrival → List Taken → Type 0
HasRun book old new arrivals answers = DeskRan book old arrivals answers new

-- the desk executed the arrivals among the lines in turn
abbrev pub RunInTurn : {B : Type 0} → Ghosts B → Desk B → Desk B → List (List ℕ) → List (List ℕ) → Type 0
RunInTurn book old new = ArrivalsAnswered (HasRun book old new)

-- over the desk before it and after it, all requests of a plan were executed, and all of their answers were written
abbrev pub PlanDone : {B : Type 0} → Ghosts B → Both (MutBor (Desk B)) (MutBor (Desk B)) → List Request → Output → Type 0
PlanDone book desk plan output =
    LinesAnswered (AllRequests plan) (RequestsAnswered (HasRun book desk.entry.now desk.exit.now)) (Appends output.before output.after)

-- the first ones were, and not all of their answers were written
abbrev pub PlanBegun : {B : Type 0} → Ghosts B → Both (MutBor (Desk B)) (MutBor (Desk B)) → List Request → Output → Type 0
PlanBegun book desk plan output =
    LinesAnswered (FirstRequests plan) (RequestsAnswered (HasRun book desk.entry.now desk.exit.now)) (Breaks output.before output.after)

-- the one or, where the writer stopped, the other
abbrev pub PlanAnswered : {B E : Type 0} → Ghosts B → Both (MutBor (Desk B)) (MutBor (Desk B)) → List Request → Output → Result (Unit {0}) E → Type 0
PlanAnswered book desk plan output result = MatchResult result (λ _. PlanDone book desk plan output) (λ _. PlanBegun book desk plan output)

-- ---- how it ended

-- `InTurn d e` says how lines were answered from the desk d to the desk e
module _ {D : Type 0} (InTurn : D → D → List (List ℕ) → List (List ℕ) → Type 0) (io : Streams) (d e : D) where
  -- the state after a fault
  abbrev pub EndedBy : LinesFault → Type 0
  -- the lines that ended in what was read were answered, and all of their answers were written
  EndedBy Read = LinesAnswered (EndedLines io.old_input io.left) (InTurn d e) (Appends io.old_output io.new_output)
  -- not all that was answered was written
  EndedBy Write = LinesAnswered (FirstLines io.old_input) (InTurn d e) (Breaks io.old_output io.new_output)
  -- nothing was read
  EndedBy NoMemory = Untouched io × (e ≡ d)

-- where `ends` says so, a desk that has failed answers nothing more
module _ {D : Type 0} (stands : D → DeskState) (InTurn : D → D → List (List ℕ) → List (List ℕ) → Type 0) (ends : Bool) (io : Streams) (d e : D) where
  pub record LinesDone (result : Result (Unit {0}) LinesFault) : Type 0 where
    -- without a fault the whole input was answered, unless the desk failed and that was to end it
    pub all : OnOk result ((ends ≡ true → (stands e).failed ≡ false) → LinesAnswered (AllLines io.old_input) (InTurn d e) (Appends io.old_output io.new_output))
    -- else its first lines, and all of their answers were written
    pub first : OnOk result (LinesAnswered (FirstLines io.old_input) (InTurn d e) (Appends io.old_output io.new_output))
    -- after a fault a beginning of the input was answered, and a beginning of the answers was written
    pub begun : OnErr result (LinesAnswered (FirstLines io.old_input) (InTurn d e) (Begins io.old_output io.new_output))
    pub cause : IfErr result (EndedBy InTurn io d e)

-- ---- by the manner of answering

-- how lines are answered
pub record Manner (D : Type 0) : Type 1 where
  -- what is seen of a desk
  pub stands : D → DeskState
  -- these lines got these answers, from one desk to another
  pub Answered : D → D → List (List ℕ) → List (List ℕ) → Type 0
  -- a desk that has failed answers nothing more
  pub ends : Bool

-- the desk executes their requests, and nothing else is asked
abbrev pub by_requests : {B : Type 0} → Ghosts B → Bool → Manner (Desk B)
by_requests book ends = record { stands = state_of book; Answered = RunInTurn book; ends = ends }

-- so lines were answered, over the desk before it and after it
abbrev pub DoneBy : {D : Type 0} → Manner D → Streams → Both (MutBor D) (MutBor D) → Result (Unit {0}) LinesFault → Type 0
DoneBy manner io desk result = LinesDone manner.stands manner.Answered manner.ends io desk.entry.now desk.exit.now result
