-- Reads of a book, by what it says of itself.
use Rattle.std.specs.Prelude.{Bool, Result, IfOk, OnOk, IsErrOf}
use Rattle.std.specs.Bool.{Decides}
use Rattle.acd_book.specs.Content.{Content, Within, HasRisen}
use Rattle.acd_book.specs.Order.{IsOrdered}
use Rattle.acd_book.specs.State.{BookState, Reads, IfHonest, BookStep, Unchanged}
use Rattle.acd_book.specs.declared.fault.BookFault.{BookFault}
use Rattle.acd_book.specs.declared.fault.BookFault.TheVariants.{Store}

-- a read of an open book, or none where an earlier read gives the answer: then nothing shows whether the book is open
pub record ReadsIfOpen {A : Type 0} (old new : BookState) (result : Result A BookFault) (IsAnswer : Content → A → Type 0) : Type 0 where
  pub step : BookStep (IsErrOf result Store) old new
  pub unchanged : Unchanged old new
  pub value : IfHonest old new (old.is_open → IfOk result (IsAnswer old.content))
  pub stays : OnOk result (IfHonest old new (old.is_open → new.is_open))
  pub keeps : IfHonest old new (new.is_open → Within old.stops new.stops)
  pub cause : IsErrOf result Store → HasRisen old.failures new.failures

-- nothing is said of what is found
abbrev pub Anything : {T : Type 0} → Content → T → Type 0
Anything c found = Unit {0}

-- this is found of a content whose records stand in order
abbrev pub IfOrdered : {T : Type 0} → (Content → T → Type 0) → Content → T → Type 0
IfOrdered IsAnswer c found = IsOrdered c → IsAnswer c found

-- a read that finds whether this holds of the content
abbrev pub BookDecides : {B : Type 0} → (B → BookState) → B → B → Result Bool BookFault → (Content → Type 0) → Type 0
BookDecides state old new result P = Reads (state old) (state new) result (λ (c : Content) (found : Bool). Decides found (P c))

-- a read of an open book, or none where what was read before decides it
abbrev pub MayRead : {B A : Type 0} → (B → BookState) → B → B → Result A BookFault → (Content → A → Type 0) → Type 0
MayRead state old new result IsAnswer = ReadsIfOpen (state old) (state new) result IsAnswer
