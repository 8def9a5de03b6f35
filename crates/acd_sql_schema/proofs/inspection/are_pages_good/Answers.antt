use Rattle.std.proofs.Common.{◌≡◌, Err, arith, refl, rules, subst, sym, Ok, true, false, ◌<◌}
use Rattle.sqlite.specs.Held.{state}
use Rattle.acd_sql_schema.specs.Inspection.{FindsGoodAfter, IsPaged}
use Rattle.acd_sql_columns.specs.DatabaseView.{Sees}
use Rattle.acd_sql_schema.proofs.InspectionReads.{Left, pages_bad, pages_last, pages_more, pages_fail}
use Rattle.acd_sql_columns.proofs.Results.SnapshotReads.{sees_here}
use Rattle.acd_sql_columns.specs.Transactions.{Fits}
use Rattle.acd_sql_schema.proofs.Faults.{pages_looked}
use Rattle.acd_sql_statements.proofs.LookCauses.{looks_as, looks_done, looks_still}
use Rattle.acd_sql_schema.proofs.inspection.are_pages_good.Goals as goal

pub loop-page-init : goal.loop-page-init
loop-page-init g c = record {
  fits = omega arith;
  seen = λ d is. sees_here d (state g.S.Store c.args.conn.now) tt (Left c.args.log 0 d.trees) (λ old_database xs are. refl);
  looked = looks_still (IsPaged c.args.log) (state g.S.Store c.args.conn.now) tt;
}

pub loop-page-preserved : goal.loop-page-preserved
loop-page-preserved g c = record {
  fits = rw c.in-More.is at c.in_ok-page.ensures.fits;
  seen =
      λ d is. pages_more d (state g.S.Store c.args.conn.now) (state g.S.Store c.loop-page.conn) (state g.S.Store c.page_after.new.conn) c.args.log
      c.loop-page.number (c.loop-page.invariant.seen d is) c.in-More.last (rw c.in-More.is at (c.in_ok-page.ensures.seen d is));
  looked =
      looks_done (IsPaged c.args.log) (IsPaged c.args.log) (λ d h. h) (state g.S.Store c.args.conn.now) (state g.S.Store c.page_after.new.conn)
      c.in_ok-page.page tt
      (pages_looked c.args.log c.loop-page.number (state g.S.Store c.args.conn.now) (state g.S.Store c.loop-page.conn) (state g.S.Store c.page_after.new.conn)
      c.loop-page.invariant.seen c.loop-page.invariant.looked (Ok c.in_ok-page.page) c.in_ok-page.ensures.seen c.in_ok-page.ensures.looked);
}

pub loop-page-smaller : goal.loop-page-smaller
loop-page-smaller g c =
    let above : c.loop-page.number < c.in-More.last = rw c.in-More.is at c.in_ok-page.ensures.rises in
    let low : Fits c.in-More.last = rw c.in-More.is at c.in_ok-page.ensures.fits in
    omega (arith, above, low)

pub returns-in_err-page-clause-seen : goal.returns-in_err-page-clause-seen
returns-in_err-page-clause-seen g c d same =
    let is : c.from_residual.result ≡ Err c.in_err-page.field-0.0 = search rules in
    subst (λ r. Sees d (state g.S.Store c.args.conn.now) (state g.S.Store c.page_after.new.conn) r (λ good. FindsGoodAfter c.args.log d.trees good)) (sym is)
    (pages_fail d (state g.S.Store c.args.conn.now) (state g.S.Store c.loop-page.conn) (state g.S.Store c.page_after.new.conn) c.args.log c.loop-page.number
    (c.loop-page.invariant.seen d same) c.in_err-page.field-0.0 (c.in_err-page.ensures.seen d same))

pub returns-in-Bad-clause-seen : goal.returns-in-Bad-clause-seen
returns-in-Bad-clause-seen g c d is =
    pages_bad d (state g.S.Store c.args.conn.now) (state g.S.Store c.loop-page.conn) (state g.S.Store c.page_after.new.conn) c.args.log c.loop-page.number
    (c.loop-page.invariant.seen d is) (rw c.in-Bad.is at (c.in_ok-page.ensures.seen d is))

pub returns-in-Last-clause-seen : goal.returns-in-Last-clause-seen
returns-in-Last-clause-seen g c d is =
    pages_last d (state g.S.Store c.args.conn.now) (state g.S.Store c.loop-page.conn) (state g.S.Store c.page_after.new.conn) c.args.log c.loop-page.number
    (c.loop-page.invariant.seen d is) (rw c.in-Last.is at (c.in_ok-page.ensures.seen d is))

pub returns-in_err-page-clause-looked : goal.returns-in_err-page-clause-looked
returns-in_err-page-clause-looked g c =
    let is : c.from_residual.result ≡ Err c.in_err-page.field-0.0 = search rules in
    looks_as (IsPaged c.args.log) (IsPaged c.args.log) (λ d h. h) (state g.S.Store c.args.conn.now) (state g.S.Store c.page_after.new.conn)
    c.in_err-page.field-0.0 c.from_residual.result is
    (pages_looked c.args.log c.loop-page.number (state g.S.Store c.args.conn.now) (state g.S.Store c.loop-page.conn) (state g.S.Store c.page_after.new.conn)
    c.loop-page.invariant.seen c.loop-page.invariant.looked (Err c.in_err-page.field-0.0) c.in_err-page.ensures.seen c.in_err-page.ensures.looked)

pub returns-in-Bad-clause-looked : goal.returns-in-Bad-clause-looked
returns-in-Bad-clause-looked g c =
    looks_done (IsPaged c.args.log) (IsPaged c.args.log) (λ d h. h) (state g.S.Store c.args.conn.now) (state g.S.Store c.page_after.new.conn) c.in_ok-page.page
    false
    (pages_looked c.args.log c.loop-page.number (state g.S.Store c.args.conn.now) (state g.S.Store c.loop-page.conn) (state g.S.Store c.page_after.new.conn)
    c.loop-page.invariant.seen c.loop-page.invariant.looked (Ok c.in_ok-page.page) c.in_ok-page.ensures.seen c.in_ok-page.ensures.looked)

pub returns-in-Last-clause-looked : goal.returns-in-Last-clause-looked
returns-in-Last-clause-looked g c =
    looks_done (IsPaged c.args.log) (IsPaged c.args.log) (λ d h. h) (state g.S.Store c.args.conn.now) (state g.S.Store c.page_after.new.conn) c.in_ok-page.page
    true
    (pages_looked c.args.log c.loop-page.number (state g.S.Store c.args.conn.now) (state g.S.Store c.loop-page.conn) (state g.S.Store c.page_after.new.conn)
    c.loop-page.invariant.seen c.loop-page.invariant.looked (Ok c.in_ok-page.page) c.in_ok-page.ensures.seen c.in_ok-page.ensures.looked)
