-- The content of a book in memory.
use Rattle.std.specs.Prelude.{◌≡◌, ℕ, vec_len}
use Rattle.acd_book.specs.Content.{Content, Commit}
use Rattle.acd_book.specs.Ledger.{ledger_rows}
use Rattle.acd_book.specs.declared.contents.Contents.{Contents}

abbrev pub memory_content : Contents → Content
memory_content h = record { rows = ledger_rows h.ledger; events = h.log.events.items; kept = h.replies.records.items }

-- it holds what a commit makes of what it held
abbrev pub HasMade : Commit → Contents → Contents → Type 0
HasMade commit old new = memory_content new ≡ commit.after (memory_content old)

-- how many changes are in the journal of its tables
abbrev pub waiting : Contents → ℕ
waiting h = vec_len h.ledger.journal
