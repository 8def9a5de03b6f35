-- The desk's own clock: the tick that it hands in, and what is left of a look.
use Rattle.std.specs.Prelude.{◌≡◌, ℕ, Bool, true, false, List, ◌++◌, codes, decimal, Option, Some, None, Ok}
use Rattle.acd_terms.specs.Numbers.{Moment}
use Rattle.acd_terms.specs.declared.rows.Rows.{Rows}
use Rattle.acd_terms.specs.declared.command.Request.{Request}
use Rattle.acd_terms.specs.declared.command.Command.TheVariants.{Tick}
use Rattle.acd_model.specs.Step.{executed_moment}
use Rattle.acd_model.specs.Run.{TimedCommand, run}
use Rattle.acd_laws.specs.Due.{is_due, is_due_by}
use Rattle.acd_laws.specs.TimeLaws.{IsInTime}
use Rattle.acd_book.specs.declared.book.Book.{Ghosts}
use Rattle.acd_book.specs.Content.{Content}
use Rattle.acd_book.specs.State.{IfHonest}
use Rattle.acd_desk.specs.declared.desk.Desk.{Desk}
use Rattle.acd_desk.specs.declared.taken.Taken.{Taken}
use Rattle.acd_desk.specs.Contents.AcceptedArrivals.{is_fault, is_reply}
use Rattle.acd_desk.specs.Contents.Arrivals.{arrival_at}
use Rattle.acd_desk.specs.Contents.SoundContent.{IsNew}
use Rattle.acd_desk.specs.Desks.DeskState.{InStep}
use Rattle.acd_desk.specs.Desks.DeskCalls.{DeskState, state_of, Took}
use Rattle.acd_desk.specs.Reads.DeskReads.{ReadDone}

-- `clock-` and the moment that was read, in decimal
abbrev pub clock_requester : Moment → List ℕ
clock_requester moment = codes "clock-" ++ decimal moment

-- the request of the clock at a moment
abbrev pub clock_tick : Moment → Request
clock_tick moment = record { requester = clock_requester moment; invoke = 1; command = Tick }

-- something is due in the switch in memory; where there is none, something may be
abbrev pub may_be_due : Option Rows → Moment → Bool
may_be_due (Some s) moment = is_due_by s moment
may_be_due None moment = true

-- a look that found nothing due: no request was handed in
pub record NoneDue (moment : Moment) (old new : DeskState) : Type 0 where
  pub look : may_be_due new.switch moment ≡ false
  pub read : ReadDone {A = Bool} old new (Ok false) (λ (c : Content) (found : Bool). found ≡ is_due_by c.rows moment)

-- rows that a tick at a moment left: nothing is due then, and whatever is requested from there on, nothing lasts longer
pub record LeavesNone (moment : Moment) (s : Rows) : Type 0 where
  pub due : is_due s moment ≡ false
  pub bounds : (more : List TimedCommand) → IsInTime s (run s more).rows

-- a look that had the clock's tick handed in, and the answer to that
pub record Ticked (moment : Moment) (old : DeskState) (t : Taken) (new : DeskState) : Type 0 where
  -- it is an arrival like any other
  pub took : Took old (arrival_at moment (clock_tick moment)) t new
  -- something was due in the switch, or it had to be loaded
  pub look : may_be_due old.switch moment ≡ true
  -- something was due in the content of the book, or the answer is a fault
  pub due : is_fault t ≡ false → IfHonest old.book new.book (InStep old → is_due_by old.book.content.rows moment ≡ true)
  -- a new key that got a reply: the tick was executed
  pub leaves : is_reply t ≡ true → IfHonest old.book new.book (InStep old → IsNew old.book.content (clock_tick moment)
      → LeavesNone (executed_moment old.book.content.rows moment) new.book.content.rows)

-- a look at the moment of the clock, and the answer to its tick, where one was handed in
abbrev pub Looked : Moment → DeskState → Option Taken → DeskState → Type 0
Looked moment old None new = NoneDue moment old new
Looked moment old (Some t) new = Ticked moment old t new

-- ---- of a desk over a book, by the words of that book

abbrev pub DeskLooked : {B : Type 0} → Ghosts B → Moment → Desk B → Option Taken → Desk B → Type 0
DeskLooked book moment old result new = Looked moment (state_of book old) result (state_of book new)
