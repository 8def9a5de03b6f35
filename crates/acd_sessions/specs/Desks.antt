-- A desk's work over a book: one in memory, or that of a database.
use Rattle.std.specs.Prelude.{◌≡◌, Bool}
use Rattle.sqlite.specs.State.{State}
use Rattle.sqlite.specs.Held.{Held}
use Rattle.sqlite_trees.specs.declared.store.Store.{Ghosts}
use Rattle.acd_book.specs.declared.book.Book as book
use Rattle.acd_book.specs.Content.{Content}
use Rattle.acd_book.specs.State.{BookState}
use Rattle.acd_sqlbook.specs.View.{BookView, book_seen}
use Rattle.acd_desk.specs.declared.desk.Desk.{Desk}
use Rattle.acd_desk.specs.Desks.Opening.{Opened}
use Rattle.acd_desk.specs.Desks.DeskState.{state_of}
use Rattle.acd_sessions.specs.MemoryAnswers.{in_memory, IsNewDesk}
use Rattle.acd_sessions.specs.ConnectionBook.{IsTaken}

-- a desk was opened over the book and did this, and the book came back
pub record OverDesk {B : Type 0} (says : book.Ghosts B) (Did : Desk B → Desk B → Type 0) (old : BookState) (last : B) : Type 0 where
  pub first : Desk B
  pub final : Desk B
  pub opened : Opened old (state_of says first)
  pub did : Did first final
  pub back : last ≡ final.book

-- a new desk in memory did this
pub record OverNewDesk (Did : Desk Content → Desk Content → Type 0) : Type 0 where
  pub first : Desk Content
  pub final : Desk Content
  pub opened : IsNewDesk (state_of in_memory first)
  pub did : Did first final

module _ {S : Type 0} (store : Ghosts S) where
  -- the state of a book in a database
  abbrev pub in_database : book.Ghosts (BookView S)
  in_database = record { state = book_seen store }

  -- A book was opened in the database or, where that had no tables and one was to be made, a new one was made. A desk over it did this, and the connection
  -- came back.
  pub record OverDatabase (makes : Bool) (Did : Desk (BookView S) → Desk (BookView S) → Type 0) (old : State) (new : Held S) : Type 0 where
    pub taken : BookView S
    pub last : BookView S
    pub of_old : IsTaken makes old (book_seen store taken)
    pub over : OverDesk in_database Did (book_seen store taken) last
    pub back : new ≡ last.conn
