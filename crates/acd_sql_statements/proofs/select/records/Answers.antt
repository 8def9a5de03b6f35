use Rattle.std.proofs.Common.{[], ◌∷◌, map, sym, subst, rules}
use Rattle.std.specs.Prelude.{Vec, IsPermutation}
use Rattle.std.specs.declared.alloc.Global.{Global}
use Rattle.acd_sql_columns.specs.AnyRows.{rows_in}
use Rattle.acd_sql_columns.proofs.FileTables.TableQueries.{seen_records}
use Rattle.sqlite.specs.Held.{state}
use Rattle.acd_book.specs.Content.{Content}
use Rattle.acd_sql_columns.specs.Relations.{relations_of}
use Rattle.acd_sql_columns.proofs.Rows.RecordsOfRows.{recorded}
use Rattle.sqlite_rules.specs.Lists.{Has}
use Rattle.acd_sql_columns.proofs.FileTables.DescribedTable.{good}
use Rattle.acd_sql_statements.proofs.ReadsInTurn.{finds_failed}
use Rattle.acd_sql_statements.proofs.ReadCauses.{cause_as}
use Rattle.acd_sql_statements.proofs.RowCauses.{cause_records}
use Rattle.acd_sql_columns.specs.Schema.{BeginsSchema}
use Rattle.acd_sql_statements.specs.Looks.{HasGood}
use Rattle.acd_sql_statements.proofs.LookCauses.{looks_decoded, looks_as, sees_as}
use Rattle.acd_sql_statements.proofs.select.records.Goals as goal

pub returns-in_err-rows-clause-found : goal.returns-in_err-rows-clause-found
returns-in_err-rows-clause-found g c = finds_failed c.in_err-rows.ensures.found (search rules)

pub returns-clause-found : goal.returns-clause-found
returns-clause-found g c =
    recorded g.R.Stored.descr.in_row g.R.Stored.descr.values (λ row x y. g.met.R.Stored.described.exact row x y (g.met.R.Stored.reads y))
    (state g.S.Store c.args.conn.now) (state g.S.Store c.rows.new.conn) c.in_ok-rows.rows c.records_of.result
    (λ (x : Content). g.R.Stored.descr.records (relations_of x)) c.in_ok-rows.ensures.found
    (rw c.deref.ensures.value at c.records_of.ensures.records)

pub returns-in_err-rows-clause-seen : goal.returns-in_err-rows-clause-seen
returns-in_err-rows-clause-seen g c d is =
    sees_as d (state g.S.Store c.args.conn.now) (state g.S.Store c.rows.new.conn) c.in_err-rows.field-0.0 c.from_residual.result (search rules) _
    (λ (found : Vec _ Global). IsPermutation (rows_in g.R.Stored.descr.table d.trees) (map g.R.Stored.descr.values found.items))
    (c.in_err-rows.ensures.seen d is)

pub returns-clause-seen : goal.returns-clause-seen
returns-clause-seen g c d is =
    seen_records g.R.Stored.descr g.met.R.Stored.described d (state g.S.Store c.args.conn.now) (state g.S.Store c.rows.new.conn) c.in_ok-rows.rows
    c.records_of.result (rw c.deref.ensures.value at c.records_of.ensures.records) (c.in_ok-rows.ensures.seen d is)

pub returns-in_err-rows-clause-cause : goal.returns-in_err-rows-clause-cause
returns-in_err-rows-clause-cause g c answers has_values =
    cause_as (state g.S.Store c.args.conn.now) (state g.S.Store c.rows.new.conn) c.in_err-rows.field-0.0 c.from_residual.result (search rules)
    (c.in_err-rows.ensures.cause answers)

pub returns-clause-cause : goal.returns-clause-cause
returns-clause-cause g c answers has_values =
    cause_records g.R.Stored.descr.in_row g.R.Stored.descr.table (good g.R.Stored.descr g.met.R.Stored.described) (state g.S.Store c.args.conn.now)
    (state g.S.Store c.rows.new.conn) c.in_ok-rows.rows c.records_of.result
    (λ (x : Content). map g.R.Stored.descr.values (g.R.Stored.descr.records (relations_of x)))
    (λ x row has. subst (λ l. Has l row) (sym (has_values x)) has) (c.in_ok-rows.ensures.cause answers) c.in_ok-rows.ensures.found
    (rw c.deref.ensures.value at c.records_of.ensures.bad)

pub returns-in_err-rows-clause-looked : goal.returns-in_err-rows-clause-looked
returns-in_err-rows-clause-looked g c answers =
    looks_as (HasGood (BeginsSchema g.R.Stored.descr.base) (g.R.Stored.descr.table ∷ [])) (HasGood (BeginsSchema g.R.Stored.descr.base) []) (λ d h. (h.0, tt))
    (state g.S.Store c.args.conn.now) (state g.S.Store c.rows.new.conn) c.in_err-rows.field-0.0 c.from_residual.result (search rules)
    (c.in_err-rows.ensures.looked answers)

pub returns-clause-looked : goal.returns-clause-looked
returns-clause-looked g c answers =
    looks_decoded g.R.Stored.descr.in_row g.R.Stored.descr.table (good g.R.Stored.descr g.met.R.Stored.described)
    (HasGood (BeginsSchema g.R.Stored.descr.base) (g.R.Stored.descr.table ∷ [])) (HasGood (BeginsSchema g.R.Stored.descr.base) [])
    (state g.S.Store c.args.conn.now) (state g.S.Store c.rows.new.conn) c.in_ok-rows.rows c.records_of.result (λ d h. h.1.0)
    (c.in_ok-rows.ensures.looked answers) (λ d h. c.in_ok-rows.ensures.seen d h.0) (rw c.deref.ensures.value at c.records_of.ensures.bad)
