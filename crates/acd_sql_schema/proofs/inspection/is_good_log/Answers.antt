use Rattle.std.proofs.Common.{◌≡◌, Err, [], rules, subst, sym, ◌∙◌, false}
use Rattle.sqlite.specs.Held.{state}
use Rattle.acd_sql_columns.specs.AnyRows.{table_of_log, FindsGood, FindsLow}
use Rattle.acd_sql_columns.specs.DatabaseView.{Sees}
use Rattle.acd_sql_schema.proofs.InspectionReads.{nothing_in, something_in, log_low, log_pages}
use Rattle.acd_sql_columns.proofs.Results.SnapshotReads.{sees_fail}
use Rattle.std.specs.Prelude.{Vec, Bool}
use Rattle.std.specs.declared.alloc.Global.{Global}
use Rattle.sqlite.specs.Effect.{Database}
use Rattle.sqlite_value.specs.Order.{Row}
use Rattle.acd_sql_columns.specs.Schema.{tables_1, BeginsSchema}
use Rattle.acd_sql_schema.specs.Inspection.{HasCanonical, IsPaged, FindsGoodAfter}
use Rattle.acd_sql_schema.proofs.LogPages.{numbers_of}
use Rattle.acd_sql_statements.specs.Looks.{HasGood}
use Rattle.acd_sql_statements.proofs.LookCauses.{looks_as, looks_done, looks_then}
use Rattle.acd_sql_schema.proofs.inspection.is_good_log.Goals as goal

pub returns-in_err-low-clause-seen : goal.returns-in_err-low-clause-seen
returns-in_err-low-clause-seen g c d same =
    let is : c.from_residual.result ≡ Err c.in_err-low.field-0.0 = search rules in
    subst (λ r. Sees d (state g.S.Store c.args.conn.now) (state g.S.Store c.low_rows.new.conn) r (λ good. FindsGood (table_of_log c.args.log) d.trees good))
    (sym is)
    (sees_fail d (state g.S.Store c.args.conn.now) (state g.S.Store c.low_rows.new.conn) c.in_err-low.field-0.0 _
    (λ good. FindsGood (table_of_log c.args.log) d.trees good) (c.in_err-low.ensures.looks.seen d same))

pub returns-then-is_empty-clause-seen : goal.returns-then-is_empty-clause-seen
returns-then-is_empty-clause-seen g c d is =
    let none : c.in_ok-low.low.items ≡ [] = nothing_in c.in_ok-low.low (sym c.is_empty.ensures ∙ c.if-is_empty.true) in
    log_pages d (state g.S.Store c.args.conn.now) (state g.S.Store c.low_rows.new.conn) c.args.log c.in_ok-low.low (c.in_ok-low.ensures.looks.seen d is)
    (state g.S.Store c.are_pages_good.new.conn) c.are_pages_good.result none (c.are_pages_good.ensures.seen d is)

pub returns-clause-seen : goal.returns-clause-seen
returns-clause-seen g c d is =
    let some : c.in_ok-low.low.items ≡ [] → ⊥ = something_in c.in_ok-low.low (sym c.is_empty.ensures ∙ c.if-is_empty.false) in
    log_low d (state g.S.Store c.args.conn.now) (state g.S.Store c.low_rows.new.conn) c.args.log c.in_ok-low.low (c.in_ok-low.ensures.looks.seen d is) some

pub returns-in_err-low-clause-looked : goal.returns-in_err-low-clause-looked
returns-in_err-low-clause-looked g c =
    let is : c.from_residual.result ≡ Err c.in_err-low.field-0.0 = search rules in
    looks_as (HasCanonical (BeginsSchema tables_1)) (HasGood (BeginsSchema tables_1) []) (λ d h. (h.0, tt)) (state g.S.Store c.args.conn.now)
    (state g.S.Store c.low_rows.new.conn) c.in_err-low.field-0.0 c.from_residual.result is c.in_err-low.ensures.looked

pub returns-then-is_empty-clause-looked : goal.returns-then-is_empty-clause-looked
returns-then-is_empty-clause-looked g c =
    let none : c.in_ok-low.low.items ≡ [] = nothing_in c.in_ok-low.low (sym c.is_empty.ensures ∙ c.if-is_empty.true) in
    looks_then (HasCanonical (BeginsSchema tables_1)) (HasGood (BeginsSchema tables_1) []) (IsPaged c.args.log)
    (λ (d : Database) (rows : Vec Row Global). FindsLow c.args.log d.trees rows.items)
    (λ (d : Database) (good : Bool). FindsGoodAfter c.args.log d.trees good)
    (state g.S.Store c.args.conn.now) (state g.S.Store c.low_rows.new.conn) (state g.S.Store c.are_pages_good.new.conn) c.in_ok-low.low c.are_pages_good.result
    (λ d h. (h.0, tt)) c.in_ok-low.ensures.looked (λ d h. c.in_ok-low.ensures.looks.seen d h.0)
    (λ d h finds. (h.0, numbers_of c.args.log d.trees (finds.none none) h.1)) (λ d h. c.are_pages_good.ensures.seen d h.0) c.are_pages_good.ensures.looked

pub returns-clause-looked : goal.returns-clause-looked
returns-clause-looked g c =
    looks_done (HasCanonical (BeginsSchema tables_1)) (HasGood (BeginsSchema tables_1) []) (λ d h. (h.0, tt)) (state g.S.Store c.args.conn.now)
    (state g.S.Store c.low_rows.new.conn) c.in_ok-low.low false c.in_ok-low.ensures.looked
