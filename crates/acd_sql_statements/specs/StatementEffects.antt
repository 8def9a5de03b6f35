-- What a statement leaves of what the tables held.
use Rattle.std.specs.Prelude.{ℕ, Option, Result, OnOk}
use Rattle.std.specs.Ordering.{nat_cmp}
use Rattle.sqlite.specs.State.{State, HasCleanDisk}
use Rattle.sqlite.specs.declared.error.Error.{Error}
use Rattle.acd_terms.specs.Lists.{put_by, remove_by}
use Rattle.acd_terms.specs.declared.record.ConnectionRecord.{ConnectionRecord}
use Rattle.acd_model.specs.Scans.{at_connection}
use Rattle.acd_book.specs.declared.kept.Kept.{Kept}
use Rattle.acd_sql_columns.specs.Content.{with_part}
use Rattle.acd_sql_columns.specs.Relations.{Relations}
use Rattle.acd_sql_columns.specs.declared.tables.Table.TheVariants as table
use Rattle.acd_sql_columns.specs.Transactions.{HoldsUncommitted}
use Rattle.acd_sql_columns.specs.Descriptions.{Description}

-- a statement of a transaction that sees these relations: what it makes of them, and when the store refuses it, under a limit of steps
pub record Writing : Type 1 where
  pub change : Relations → Relations
  pub Refused : Option ℕ → Relations → Type 0

-- where it succeeds, a transaction that saw these relations sees what was made of them
abbrev pub LeavesRelations : State → State → Result (Unit {0}) Error → (Relations → Relations) → Type 0
LeavesRelations old new result change = HasCleanDisk new → OnOk result ((r : Relations) → HoldsUncommitted old r → HoldsUncommitted new (change r))

abbrev pub with_put : {R : Type 0} → Description R → R → Relations → Relations
with_put d x r = d.with_records (put_by (λ y. nat_cmp (d.key x) (d.key y)) (d.records r) x) r

abbrev pub without : {R : Type 0} → Description R → ℕ → Relations → Relations
without d n r = d.with_records (remove_by (λ y. nat_cmp n (d.key y)) (d.records r)) r

-- ---- of the tables whose key isn't one number, and of the kept records

abbrev pub with_connection_row : ConnectionRecord → Relations → Relations
with_connection_row x r = with_part table.Connections (put_by (at_connection x.call x.device) r.connections x) r

abbrev pub without_connection_row : ℕ → ℕ → Relations → Relations
without_connection_row call device r = with_part table.Connections (remove_by (at_connection call device) r.connections) r

abbrev pub with_kept_row : Kept → Relations → Relations
with_kept_row k r = with_part table.Kept (put_by (λ x. nat_cmp k.stamp x.stamp) r.kept k) r
