-- Connections and looks at the clock, one after another: the state after them, and the lines of their faults.
use Rattle.std.specs.Prelude.{◌≡◌, ◌⊎◌, ℕ, ◌+◌, Bool, true, false, cond, List, [], ◌∷◌, ◌++◌, Option, Some, None, is_some, Result, codes}
use Rattle.std.specs.Option.{is_none}
use Rattle.std.specs.Borrow.{MutBor}
use Rattle.acd_book.specs.declared.book.Book.{Ghosts}
use Rattle.acd_desk.specs.declared.desk.Desk.{Desk}
use Rattle.acd_desk.specs.declared.taken.Taken.{Taken}
use Rattle.acd_desk.specs.declared.taken.Taken.TheVariants.{Reply, InvokeReused, DeskFull, NoMemory, StoreFault}
use Rattle.acd_desk.specs.Desks.DeskCalls.{DeskState, state_of}
use Rattle.acd_io.specs.declared.sending.Stopped.{Stopped}
use Rattle.acd_io.specs.SentBytes.{WasSent}
use Rattle.acd_lines.specs.Lines.{Output}
use Rattle.acd_desk.specs.Desks.Clock.{Looked, DeskLooked}
use Rattle.acd_http.specs.declared.serving.Span.{Span}
use Rattle.acd_http.specs.declared.watch.Watch.{Watch}
use Rattle.acd_http.specs.ConnectionsInTurn.{Outcome, PrintsText, outcome_line, AnsweredOne}
use denote.Triple.Both.{Both}

-- a connection, by how it ended; or a look at the clock, by the answer to its tick, where one was handed in, and by whether a line was written of that
pub data ServiceTurn : Type 0 where
  answered : Outcome → ServiceTurn
  looked : Option Taken → Bool → ServiceTurn

-- the line that reports why a tick wasn't executed, or may not have been
unfoldable pub tick_line : Option Taken → List ℕ
tick_line (Some NoMemory) = codes "acd: tick: no memory\n"
tick_line (Some StoreFault) = codes "acd: tick: store fault\n"
tick_line (Some DeskFull) = codes "acd: tick: desk full\n"
tick_line (Some InvokeReused) = []
tick_line (Some (Reply status body)) = []
tick_line None = []

-- the line of a turn; if it is a connection, it has this number
abbrev pub turn_line : ℕ → ServiceTurn → List ℕ
turn_line number (answered x) = outcome_line number x
turn_line number (looked taken told) = cond told (tick_line taken) []

-- 1 for a connection, 0 for a look
abbrev pub connections_of_turn : ServiceTurn → ℕ
connections_of_turn (answered x) = 1
connections_of_turn (looked taken told) = 0

-- how many of these are connections
abbrev pub connection_count : List ServiceTurn → ℕ
connection_count [] = 0
connection_count (x ∷ xs) = connections_of_turn x + connection_count xs

-- the lines of turns; the first connection among them has this number
unfoldable pub turn_lines : ℕ → List ServiceTurn → List ℕ
turn_lines number [] = []
turn_lines number (x ∷ xs) = turn_line number x ++ turn_lines (number + connections_of_turn x) xs

module _ {D : Type 0} (stands : D → DeskState) where
  -- a look, by a desk that hadn't failed
  pub record LookedAt (taken : Option Taken) (d e : D) : Type 0 where
    pub moment : ℕ
    pub working : (stands d).failed ≡ false
    pub looked : Looked moment (stands d) taken (stands e)

  -- one turn; looks are made only where `looks` says so
  abbrev pub Turned : Bool → D → ServiceTurn → D → Type 0
  Turned looks d (answered x) e = AnsweredOne stands d x e
  Turned looks d (looked taken told) e = (looks ≡ true) × LookedAt taken d e

  -- one turn after another
  abbrev pub TurnedEach : Bool → D → List ServiceTurn → D → Type 0
  TurnedEach looks d [] e = e ≡ d
  TurnedEach looks d (x ∷ xs) e = (f : D) × Turned looks d x f × TurnedEach looks f xs e

  -- each of them by a desk that hadn't failed
  abbrev pub TurnedWell : (looks : Bool) (d : D) (xs : List ServiceTurn) (e : D) → TurnedEach looks d xs e → Type 0
  TurnedWell looks d [] e h = Unit {0}
  TurnedWell looks d (x ∷ xs) e h = ((stands d).failed ≡ false) × TurnedWell looks h.0 xs e h.2

  -- turns with so many connections were taken, each by a desk that hadn't failed where `endless`, and their lines were written as is said
  pub record TurnsTaken (looks endless : Bool) (many : ℕ) (d e : D) (WentOut : List ℕ → Type 0) : Type 0 where
    pub turns : List ServiceTurn
    pub count : connection_count turns ≡ many
    pub turned : TurnedEach looks d turns e
    pub well : endless ≡ true → TurnedWell looks d turns e turned
    pub out : WentOut (turn_lines 1 turns)

  -- for private clauses: after turns whose lines were sent as `before` says come looks, whose lines were sent as `after` says
  abbrev pub AddsLooks : Bool × Bool → D × D → Result (Unit {0}) Stopped × Result (Unit {0}) Stopped → Output → Type 0
  AddsLooks kind desks printed output =
      (first : D) (start : Option (List ℕ)) (many : ℕ) → TurnsTaken kind.0 kind.1 many first desks.0 (WasSent printed.0 start output.before)
      → TurnsTaken kind.0 kind.1 many first desks.1 (WasSent printed.1 start output.after)

  -- so many connections end a service; where there is no number, it ends with the desk, or with as many as 64 bits count
  abbrev pub EndsAt : Option ℕ → ℕ → D → Type 0
  EndsAt (Some most) many e = many ≡ most
  EndsAt None many e = ((stands e).failed ≡ true) ⊎ (many ≡ 18446744073709551615)

  -- turns were taken until then
  abbrev pub TurnsUntil : Bool → Option ℕ → D → D → (List ℕ → Type 0) → Type 0
  TurnsUntil looks span d e WentOut = (many : ℕ) × TurnsTaken looks (is_none span) many d e WentOut × EndsAt span many e

-- ---- of a desk over a book, by the words of that book

-- it took turns, and its service has this span
abbrev pub Serves : {B : Type 0} → Ghosts B → Span → Both (MutBor (Desk B)) (MutBor (Desk B)) → (List ℕ → Type 0) → Type 0
Serves book span desk WentOut = TurnsUntil (state_of book) (is_some span.step) span.connections desk.entry.now desk.exit.now WentOut

-- for private clauses: a service of this span ends with its desk, and that has failed
abbrev pub EndsWithDesk : {B : Type 0} → Ghosts B → Span → Desk B → Type 0
EndsWithDesk book span d = (span.connections ≡ None) × ((state_of book d).failed ≡ true)

-- for private clauses: one that would end with it goes on, since it hasn't
abbrev pub GoesOn : {B : Type 0} → Ghosts B → Span → Desk B → Type 0
GoesOn book span d = is_none span.connections ≡ true → (state_of book d).failed ≡ false

-- for private clauses: the line of a look was written, or none
abbrev pub TellsLook : Option Taken → Result (Unit {0}) Stopped × Result (Unit {0}) Stopped → Output → Type 0
TellsLook taken printed output = (told : Bool) × PrintsText (turn_line 0 (looked taken told)) printed.0 output printed.1

-- for private clauses: how lines were sent before a call and after it, by what a service knows of them
abbrev pub printed_in : Both (MutBor Watch) (MutBor Watch) → Result (Unit {0}) Stopped × Result (Unit {0}) Stopped
printed_in watch = (watch.entry.now.printed, watch.exit.now.printed)

-- for private clauses: it was looked at once
abbrev pub LookedOnce : {B : Type 0} → Ghosts B → Both (MutBor (Desk B)) (MutBor (Desk B)) → Both (MutBor Watch) (MutBor Watch) → Output → Type 0
LookedOnce book desk watch output =
    (moment : ℕ) × (taken : Option Taken) × DeskLooked book moment desk.entry.now taken desk.exit.now × TellsLook taken (printed_in watch) output

-- for private clauses: it was looked at, in its turns
abbrev pub LooksAtClock : {B : Type 0} → Ghosts B → Span → Both (MutBor (Desk B)) (MutBor (Desk B)) → Both (MutBor Watch) (MutBor Watch) → Output → Type 0
LooksAtClock book span desk watch output =
    AddsLooks (state_of book) (is_some span.step, is_none span.connections) (desk.entry.now, desk.exit.now) (printed_in watch) output
