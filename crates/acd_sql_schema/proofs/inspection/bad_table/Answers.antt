use Rattle.std.proofs.Common.{◌≡◌, Err, [], true, false, refl, rules, subst, sym, Ok, None}
use Rattle.sqlite.specs.Held.{state}
use Rattle.acd_terms.specs.Lists.{Every}
use Rattle.acd_sql_columns.specs.AnyRows.{Covers}
use Rattle.acd_sql_schema.specs.Inspection.{IsBadOf, HasCanonical}
use Rattle.acd_sql_columns.specs.DatabaseView.{Sees}
use Rattle.acd_sql_schema.proofs.InspectionReads.{Good, every_at, tables_next, tables_bad, tables_fail, tables_end}
use Rattle.acd_sql_columns.proofs.Results.SnapshotReads.{sees_here}
use Rattle.acd_sql_schema.proofs.Faults.{tables_looked}
use Rattle.acd_sql_statements.proofs.LookCauses.{looks_as, looks_done, looks_still}
use Rattle.acd_sql_schema.proofs.inspection.bad_table.Goals as goal

pub loop-table-init : goal.loop-table-init
loop-table-init g c = record {
  seen = λ d is. sees_here d (state g.S.Store c.args.conn.now) tt (Good [] d.trees) (λ old_database canonical. tt);
  looked = looks_still (HasCanonical (λ s. Every (Covers s) c.args.tables.now)) (state g.S.Store c.args.conn.now) tt;
}

pub loop-table-preserved : goal.loop-table-preserved
loop-table-preserved g c =
    let good : c.in_ok-good.good ≡ true = search rules in record {
      seen = λ d is.
          tables_next d (state g.S.Store c.args.conn.now) (state g.S.Store c.loop-table.conn) (state g.S.Store c.is_good_table.new.conn) c.args.tables.now
          c.loop-table.table-index (c.loop-table.invariant.seen d is)
          _ _ c.in_ok-good.good refl c.loop-table-test.true good
          (c.in_ok-good.ensures.seen d (every_at (Covers d.schema) c.args.tables.now c.loop-table.table-index _ is c.loop-table-test.true));
      looked =
          looks_done (HasCanonical (λ s. Every (Covers s) c.args.tables.now)) (HasCanonical (λ s. Every (Covers s) c.args.tables.now)) (λ d h. h)
          (state g.S.Store c.args.conn.now) (state g.S.Store c.is_good_table.new.conn) c.in_ok-good.good tt
          (tables_looked (state g.S.Store c.args.conn.now) (state g.S.Store c.loop-table.conn) (state g.S.Store c.is_good_table.new.conn) c.args.tables.now
          c.loop-table.table-index c.loop-table.invariant.seen c.loop-table.invariant.looked _ _ (Ok c.in_ok-good.good) refl c.loop-table-test.true
          c.in_ok-good.ensures.seen c.in_ok-good.ensures.looked);
    }

pub returns-in_err-good-clause-seen : goal.returns-in_err-good-clause-seen
returns-in_err-good-clause-seen g c d same =
    let is : c.from_residual.result ≡ Err c.in_err-good.field-0.0 = search rules in
    subst (λ r. Sees d (state g.S.Store c.args.conn.now) (state g.S.Store c.is_good_table.new.conn) r (λ bad. IsBadOf c.args.tables.now d bad)) (sym is)
    (tables_fail d (state g.S.Store c.args.conn.now) (state g.S.Store c.loop-table.conn) (state g.S.Store c.is_good_table.new.conn) c.args.tables.now
    c.loop-table.table-index (c.loop-table.invariant.seen d same) _ c.in_err-good.field-0.0
    (c.in_err-good.ensures.seen d (every_at (Covers d.schema) c.args.tables.now c.loop-table.table-index _ same c.loop-table-test.true)))

pub returns-then-not-good-clause-seen : goal.returns-then-not-good-clause-seen
returns-then-not-good-clause-seen g c d is =
    let bad : c.in_ok-good.good ≡ false = search rules in
    let covers = every_at (Covers d.schema) c.args.tables.now c.loop-table.table-index _ is c.loop-table-test.true in
    tables_bad d (state g.S.Store c.args.conn.now) (state g.S.Store c.loop-table.conn) (state g.S.Store c.is_good_table.new.conn) c.args.tables.now
    c.loop-table.table-index (c.loop-table.invariant.seen d is) _ c.in_ok-good.good covers bad (c.in_ok-good.ensures.seen d covers)

pub returns-clause-seen : goal.returns-clause-seen
returns-clause-seen g c d is =
    tables_end d (state g.S.Store c.args.conn.now) (state g.S.Store c.loop-table.conn) c.args.tables.now c.loop-table.table-index
    (c.loop-table.invariant.seen d is) c.loop-table-test.false

pub returns-in_err-good-clause-looked : goal.returns-in_err-good-clause-looked
returns-in_err-good-clause-looked g c =
    let is : c.from_residual.result ≡ Err c.in_err-good.field-0.0 = search rules in
    looks_as (HasCanonical (λ s. Every (Covers s) c.args.tables.now)) (HasCanonical (λ s. Every (Covers s) c.args.tables.now)) (λ d h. h)
    (state g.S.Store c.args.conn.now) (state g.S.Store c.is_good_table.new.conn) c.in_err-good.field-0.0 c.from_residual.result is
    (tables_looked (state g.S.Store c.args.conn.now) (state g.S.Store c.loop-table.conn) (state g.S.Store c.is_good_table.new.conn) c.args.tables.now
    c.loop-table.table-index c.loop-table.invariant.seen c.loop-table.invariant.looked _ _ (Err c.in_err-good.field-0.0) refl c.loop-table-test.true
    c.in_err-good.ensures.seen c.in_err-good.ensures.looked)

pub returns-then-not-good-clause-looked : goal.returns-then-not-good-clause-looked
returns-then-not-good-clause-looked g c =
    looks_done (HasCanonical (λ s. Every (Covers s) c.args.tables.now)) (HasCanonical (λ s. Every (Covers s) c.args.tables.now)) (λ d h. h)
    (state g.S.Store c.args.conn.now) (state g.S.Store c.is_good_table.new.conn) c.in_ok-good.good _
    (tables_looked (state g.S.Store c.args.conn.now) (state g.S.Store c.loop-table.conn) (state g.S.Store c.is_good_table.new.conn) c.args.tables.now
    c.loop-table.table-index c.loop-table.invariant.seen c.loop-table.invariant.looked _ _ (Ok c.in_ok-good.good) refl c.loop-table-test.true
    c.in_ok-good.ensures.seen c.in_ok-good.ensures.looked)

pub returns-clause-looked : goal.returns-clause-looked
returns-clause-looked g c =
    looks_done (HasCanonical (λ s. Every (Covers s) c.args.tables.now)) (HasCanonical (λ s. Every (Covers s) c.args.tables.now)) (λ d h. h)
    (state g.S.Store c.args.conn.now) (state g.S.Store c.loop-table.conn) tt None c.loop-table.invariant.looked
