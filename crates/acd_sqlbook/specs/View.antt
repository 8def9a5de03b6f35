-- A book over a connection, as clauses see it.
use Rattle.std.specs.Prelude.{ℕ, List, Result, Vec, refl}
use Rattle.std.specs.Coded.{Coded, code_by, coded×, coded_ℕ}
use Rattle.sqlite_trees.specs.declared.store.Store.{Ghosts}
use Rattle.sqlite.specs.Held.{Held, held_code, state}
use Rattle.acd_book.specs.Content.{Content, Commit}
use Rattle.acd_book.specs.State.{BookState, BookReads, BookFinds, BookLists, BookCommits}
use Rattle.acd_book.specs.declared.fault.BookFault.{BookFault}
use Rattle.acd_sqlbook.specs.Caches.{followed}
use Rattle.acd_sqlbook.specs.Lent.{Lent}
use Rattle.acd_sqlbook.specs.State.{book_state}
use Rattle.acd_sqlbook.specs.contracts.cache.Cache.{the_row}
use Rattle.acd_sqlbook.specs.declared.cache.Cache.{Cache}

-- its connection, how often its store has failed, and what is remembered of it
pub record BookView (S : Type 0) : Type 0 where
  pub conn : Held S
  pub failures : ℕ
  pub cache : Cache

abbrev pub view_code : {S : Type 0} → Coded S → Coded (BookView S)
view_code {S} store =
    code_by (Held S × (ℕ × Cache)) (coded× (held_code store) (coded× coded_ℕ the_row.coded))
    (λ b. (b.conn, (b.failures, b.cache))) (λ p. record { conn = p.0; failures = p.1.0; cache = p.1.1 }) (λ _. refl)

-- the book that it is
abbrev pub book_seen : {S : Type 0} → Ghosts S → BookView S → BookState
book_seen store b = followed b.cache (book_state (state store b.conn) b.failures)

-- ---- a call of it: a read finds what `IsAnswer` says, just this of the content, or just this list; or it commits

abbrev pub SqlReads : {S A : Type 0} → Ghosts S → Lent (BookView S) → Result A BookFault → (Content → A → Type 0) → Type 0
SqlReads store book result IsAnswer = BookReads (book_seen store) book.entry.now book.exit.now result IsAnswer

abbrev pub SqlFinds : {S A : Type 0} → Ghosts S → Lent (BookView S) → Result A BookFault → (Content → A) → Type 0
SqlFinds store book result answer = BookFinds (book_seen store) book.entry.now book.exit.now result answer

abbrev pub SqlLists : {S T Z : Type 0} → Ghosts S → Lent (BookView S) → Result (Vec T Z) BookFault → (Content → List T) → Type 0
SqlLists store book result answer = BookLists (book_seen store) book.entry.now book.exit.now result answer

abbrev pub SqlCommits : {S : Type 0} → Ghosts S → Lent (BookView S) → Result (Unit {0}) BookFault → Commit → Type 0
SqlCommits store book result commit = BookCommits (book_seen store) book.entry.now book.exit.now result commit
