-- The content of the tables of a book in memory.
use Rattle.std.specs.Prelude.{drop}
use Rattle.acd_terms.specs.declared.rows.Rows.{Rows}
use Rattle.acd_model.specs.Changes.{changed_by}
use Rattle.acd_book.specs.declared.ledger.Ledger.{Ledger}

-- the records with the changes made that wait
abbrev pub ledger_rows : Ledger → Rows
ledger_rows l = changed_by l.records (drop l.made l.journal.items)
