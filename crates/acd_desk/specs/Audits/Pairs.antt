-- Reads of two books, of which one is the archive of the other one.
use Rattle.std.specs.Prelude.{◌≡◌, Result, Ok, Err, IfOk}
use Rattle.acd_book.specs.Content.{Content}
use Rattle.acd_book.specs.State.{BookState, IfHonest}
use Rattle.acd_book.specs.declared.fault.BookFault.{BookFault}
use Rattle.acd_book.specs.declared.fault.BookFault.TheVariants as book
use Rattle.acd_desk.specs.declared.open_fault.OpenFault.{OpenFault}
use Rattle.acd_desk.specs.declared.open_fault.OpenFault.TheVariants as open_fault
use Rattle.acd_desk.specs.declared.pair.Pair.{Pair}
use Rattle.acd_desk.specs.declared.pair.PairFault.{PairFault}
use Rattle.acd_desk.specs.declared.pair.PairFault.TheVariants.{Current, Archive}
use Rattle.acd_desk.specs.Desks.Opening.{by_book}
use Rattle.acd_book.specs.BookReads.{ReadsIfOpen}

-- the answer of one of them, as the answer of both
abbrev pub of_current : {T : Type 0} → Result T BookFault → Result T PairFault
of_current (Ok found) = Ok found
of_current (Err fault) = Err (Current fault)

abbrev pub of_archive : {T : Type 0} → Result T BookFault → Result T PairFault
of_archive (Ok found) = Ok found
of_archive (Err fault) = Err (Archive (by_book fault))

abbrev pub of_opening : {T : Type 0} → Result T OpenFault → Result T PairFault
of_opening (Ok found) = Ok found
of_opening (Err fault) = Err (Archive fault)

-- rows that break a rule are no fault of the store
abbrev pub by_opening : {T : Type 0} → Result T OpenFault → Result T BookFault
by_opening (Ok found) = Ok found
by_opening (Err (open_fault.Rows rule)) = Err book.NoMemory
by_opening (Err open_fault.NoMemory) = Err book.NoMemory
by_opening (Err open_fault.Store) = Err book.Store

-- the part of one of them in reads of both: where the other one answered nothing, it has read no fault of the store
abbrev pub current_part : {T : Type 0} → Result T PairFault → Result T BookFault
current_part (Ok found) = Ok found
current_part (Err (Current fault)) = Err fault
current_part (Err (Archive fault)) = Err book.NoMemory

abbrev pub archive_part : {T : Type 0} → Result T PairFault → Result T BookFault
archive_part (Ok found) = Ok found
archive_part (Err (Current fault)) = Err book.NoMemory
archive_part {T = T} (Err (Archive fault)) = by_opening {T = T} (Err fault)

-- it is said where both are honest over a call, and open before it
abbrev pub IfBothOpen : BookState → BookState → BookState → BookState → Type 0 → Type 0
IfBothOpen old_archive new_archive old new P = IfHonest old_archive new_archive (IfHonest old new (old_archive.is_open → old.is_open → P))

-- reads of both, the archive first, where `IsAnswer a c found` says that this is found in the contents a and c
pub record ReadsBoth {T : Type 0} (old_archive new_archive old new : BookState) (result : Result T PairFault) (IsAnswer : Content → Content → T → Type 0) : Type 0 where
  pub archive : ReadsIfOpen old_archive new_archive (archive_part result) (λ (a : Content) (found : T). Unit {0})
  pub current : ReadsIfOpen old new (current_part result) (λ (c : Content) (found : T). Unit {0})
  pub value : IfBothOpen old_archive new_archive old new (IfOk result (IsAnswer old_archive.content old.content))

-- ---- of two books, by what each says of itself

-- what a book says of itself before a call, and after it
pub record BookCall : Type 1 where
  pub old : BookState
  pub new : BookState

abbrev pub book_call : {B : Type 0} → (B → BookState) → B → B → BookCall
book_call state old new = record { old = state old; new = state new }

-- ---- of a pair, before a call and after it

-- it has borrowed the same two
abbrev pub BorrowsSame : {A B : Type 0} → Pair A B → Pair A B → Type 0
BorrowsSame old new = (new.archive.ghost_name ≡ old.archive.ghost_name) × (new.book.ghost_name ≡ old.book.ghost_name)

-- reads of both, by what each says of itself
abbrev pub BothRead : {A B T : Type 0} → (A → BookState) → (B → BookState) → Pair A B × Pair A B → Result T PairFault → (Content → Content → T → Type 0) → Type 0
BothRead archive current pairs result IsAnswer =
    ReadsBoth (archive pairs.0.archive.now) (archive pairs.1.archive.now) (current pairs.0.book.now) (current pairs.1.book.now) result IsAnswer
