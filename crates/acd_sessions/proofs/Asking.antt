-- A desk over a book was asked, or there was none: whatever it answered, a reopening finds nothing new.
use Rattle.std.proofs.Common.{Result}
use Rattle.acd_book.specs.Content.{Content}
use Rattle.acd_book.specs.State.{BookState}
use Rattle.acd_desk.specs.Desks.DeskState.{DeskState}
use Rattle.acd_desk.specs.declared.fault.DeskFault.{DeskFault}
use Rattle.acd_desk.specs.declared.open_fault.OpenFault.{OpenFault}
use Rattle.acd_desk.specs.Desks.Opening.{Opened, Refused}
use Rattle.acd_desk.specs.Reads.DeskReads.{ReadDone}
use Rattle.acd_sessions.specs.Over.{OnlyAsked}

-- nothing was asked of it where it makes no desk
pub only_refused : (old new : BookState) (why : OpenFault) → Refused old why new → OnlyAsked old new
only_refused old new why r = record { clean = r.step.clean; sound = r.step.sound; stops = r.unchanged.stops }

-- whatever a desk read
pub only_asked : {A : Type 0} (d e : DeskState) (r : Result A DeskFault) (P : Content → A → Type 0) → ReadDone d e r P → OnlyAsked d.book e.book
only_asked d e r P t = record { clean = t.step.clean; sound = t.step.sound; stops = t.unchanged.stops }

-- nothing was asked of it
pub only_left : (s : BookState) → OnlyAsked s s
only_left s = record { clean = λ clean. clean; sound = λ clean sound. sound; stops = λ clean sound c at. at }

-- over the book that it was opened over
pub only_opened : (old : BookState) (d : DeskState) (now : BookState) → Opened old d → OnlyAsked d.book now → OnlyAsked old now
only_opened old d now o asked = record {
  clean = λ clean. o.step.clean (asked.clean clean);
  sound = λ clean sound. asked.sound clean (o.step.sound (asked.clean clean) sound);
  stops = λ clean sound c at. o.stops (asked.clean clean) sound c (asked.stops clean (o.step.sound (asked.clean clean) sound) c at);
}

pub only_read : {A : Type 0} (old : BookState) (d e : DeskState) (r : Result A DeskFault) (P : Content → A → Type 0) → Opened old d → ReadDone d e r P → OnlyAsked old e.book
only_read old d e r P o t = only_opened old d e.book o (only_asked d e r P t)
