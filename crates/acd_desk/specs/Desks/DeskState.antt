-- A desk at a moment: what its book says of itself, and what the desk has in memory.
use Rattle.std.specs.Prelude.{◌≡◌, Bool, true, false, Option, Some, None}
use Rattle.acd_terms.specs.declared.rows.Rows.{Rows}
use Rattle.acd_terms.specs.declared.command.Request.{Request}
use Rattle.acd_model.specs.Rules.First.{BreaksNoRule}
use Rattle.acd_book.specs.declared.book.Book.{Ghosts}
use Rattle.acd_book.specs.Content.{IsCounted}
use Rattle.acd_book.specs.State.{BookState}
use Rattle.acd_desk.specs.declared.desk.Desk.{Desk}
use Rattle.acd_desk.specs.declared.working.LoadedSwitch.{LoadedSwitch}
use Rattle.acd_desk.specs.declared.working.Working.{Working}
use Rattle.acd_desk.specs.declared.working.Working.TheVariants.{Loaded, Unloaded, Failed}
use Rattle.acd_desk.specs.Contents.SoundContent.{IsNew, IsSound}
use Rattle.acd_desk.specs.Contents.CarriedContent.{Archive, no_archive, together}

pub record DeskState : Type 1 where
  pub book : BookState
  -- the switch, where it is in memory
  pub switch : Option Rows
  -- it answers storeFault, and nothing else
  pub failed : Bool

abbrev pub switch_of : Working → Option Rows
switch_of (Loaded w) = Some w.switch.value
switch_of Unloaded = None
switch_of Failed = None

abbrev pub is_failed : Working → Bool
is_failed (Loaded w) = false
is_failed Unloaded = false
is_failed Failed = true

-- by the words of its book
abbrev pub state_of : {B : Type 0} → Ghosts B → Desk B → DeskState
state_of book d = record { book = book.state d.book; switch = switch_of d.working; failed = is_failed d.working }

-- the same desk with this switch in memory
abbrev pub with_switch : {B : Type 0} → Desk B → LoadedSwitch → Desk B
with_switch d loaded = record d { working = Loaded loaded }

abbrev pub book_of : {B : Type 0} → Desk B → B
book_of d = d.book

-- the same desk with these rows in memory
abbrev pub holding : DeskState → Rows → DeskState
holding s rows = record s { switch = Some rows; failed = false }

-- the rows in memory are those of the book, or the book's can be loaded
abbrev pub Mirrors : Option Rows → Rows → Type 0
Mirrors (Some rows) s = s ≡ rows
Mirrors None s = BreaksNoRule s

-- of a desk that hasn't failed over an open book, whose counters are up to its records
abbrev pub InStep : DeskState → Type 0
InStep s = s.book.is_open → s.failed ≡ false → Mirrors s.switch s.book.content.rows × IsCounted s.book.content

-- a sound book that is open, a desk in step with it, and a content that is sound with this archive before it
abbrev pub StartsWith : Archive → DeskState → Type 0
StartsWith p s = s.book.is_sound × s.book.is_open × InStep s × IsSound (together p s.book.content)

-- or by itself
abbrev pub Starts : DeskState → Type 0
Starts s = StartsWith no_archive s

-- the same desk, where a sound book is open too, and holds no record with the key of the request
abbrev pub with_new_key : DeskState → Request → DeskState
with_new_key s r = record s { book = record s.book { is_sound = s.book.is_sound × s.book.is_open × IsNew s.book.content r } }
