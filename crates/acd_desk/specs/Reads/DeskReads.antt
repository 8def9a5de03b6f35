-- A read of a desk: what it leaves.
use Rattle.std.specs.Prelude.{◌≡◌, ℕ, true, false, List, Vec, Option, None, Result, Err, IfOk, OnOk, IsErrOf, MatchResult, String}
use Rattle.std.specs.Borrow.{Bor}
use Rattle.std.specs.Fn.{Once, FnOnceReturnsAt}
use Rattle.acd_terms.specs.declared.rows.Rows.{Rows}
use Rattle.acd_book.specs.declared.book.Book.{Ghosts}
use Rattle.acd_book.specs.Content.{Content}
use Rattle.acd_book.specs.State.{IfHonest, BookStep, Unchanged}
use Rattle.acd_desk.specs.declared.fault.DeskFault.{DeskFault}
use Rattle.acd_desk.specs.declared.fault.DeskFault.TheVariants.{StoreFault}
use Rattle.acd_desk.specs.declared.desk.Desk.{Desk}
use Rattle.acd_desk.specs.declared.working.LoadedSwitch.{LoadedSwitch}
use Rattle.acd_desk.specs.Desks.DeskState.{DeskState, InStep, state_of, holding}
use Rattle.acd_desk.specs.Desks.DeskCalls.{DeskStep}
use Rattle.acd_desk.specs.Reads.BookReads.{Reread}
use Rattle.acd_desk.specs.Reads.ReadAnswers.{text_read}

-- a read, where `IsAnswer c found` says that this is the answer of that content
pub record ReadDone {A : Type 0} (old new : DeskState) (result : Result A DeskFault) (IsAnswer : Content → A → Type 0) : Type 0 where
  -- where it answers anything but storeFault, no failure was counted
  pub step : BookStep (IsErrOf result StoreFault) old.book new.book
  -- its content is as before
  pub unchanged : Unchanged old.book new.book
  pub desk : DeskStep (IsErrOf result StoreFault) (old.switch ≡ None) old new
  -- where the book is open, the answer is that of its content
  pub value : IfHonest old.book new.book (InStep old → old.book.is_open → IfOk result (IsAnswer old.book.content))
  -- it stays open
  pub stays : OnOk result (IfHonest old.book new.book (old.book.is_open → new.book.is_open))
  -- once failed it answers nothing but storeFault
  pub shut : old.failed ≡ true → IsErrOf result StoreFault
  -- it drops no switch, unless it has failed
  pub loads : new.failed ≡ false → new.switch ≡ None → old.switch ≡ None

-- a read that answers this fault
abbrev pub ReadFailed : DeskState → DeskFault → DeskState → Type 0
ReadFailed old fault new = ReadDone {A = Unit {0}} old new (Err fault) (λ c found. ⊥)

-- a call may make this of the tables of a content
abbrev pub MadeBy : {F A : Type 0} → Once F (Bor Rows × Unit {0}) A → F → Content → A → Type 0
MadeBy call make c made = FnOnceReturnsAt call make c.rows made

-- ---- of a desk over a book, by the words of that book

abbrev pub DeskRead : {B A : Type 0} → Ghosts B → Desk B → Desk B → Result A DeskFault → (Content → A → Type 0) → Type 0
DeskRead book old new result IsAnswer = ReadDone (state_of book old) (state_of book new) result IsAnswer

-- it finds just this of the content
abbrev pub DeskFinds : {B A : Type 0} → Ghosts B → Desk B → Desk B → Result A DeskFault → (Content → A) → Type 0
DeskFinds {A = A} book old new result answer = DeskRead book old new result (λ (c : Content) (found : A). found ≡ answer c)

-- it finds just this list
abbrev pub DeskLists : {B T Z : Type 0} → Ghosts B → Desk B → Desk B → Result (Vec T Z) DeskFault → (Content → List T) → Type 0
DeskLists {T = T} {Z = Z} book old new result answer = DeskRead book old new result (λ (c : Content) (found : Vec T Z). found.items ≡ answer c)

-- a text, or none where there is no such thing
abbrev pub DeskReadText : {B Z : Type 0} → Ghosts B → Desk B → Desk B → Result (Option (String Z)) DeskFault → (Content → Option (List ℕ)) → Type 0
DeskReadText {B} {Z} book old new result read = DeskRead book old new result (λ (c : Content) (text : Option (String Z)). text_read text ≡ read c)

-- a switch with the book's rows is taken out of the desk, or read of the book
abbrev pub HasTaken : {B : Type 0} → Ghosts B → Desk B → Desk B → LoadedSwitch → Type 0
HasTaken book old new taken = Reread (state_of book old) (holding (state_of book new) taken.switch.value)

-- it is, or the read fails
abbrev pub TakesSwitch : {B : Type 0} → Ghosts B → Desk B → Result LoadedSwitch DeskFault → Desk B → Type 0
TakesSwitch book old result new = MatchResult result (HasTaken book old new) (λ (fault : DeskFault). ReadFailed (state_of book old) fault (state_of book new))
