use Rattle.std.proofs.Common.{ℕ, nat_lt, refl, rules}
use Rattle.sqlite.specs.Held.{state}
use Rattle.acd_sql_statements.proofs.ReadsInTurn.{finds_failed}
use Rattle.acd_book.specs.Content.{Content}
use Rattle.acd_book.specs.declared.kept.Kept.{Kept}
use Rattle.acd_sql_columns.specs.Rows.{kept_values}
use Rattle.acd_sql_statements.proofs.Pages.{paged}
use Rattle.acd_sql_statements.proofs.ReadCauses.{cause_as}
use Rattle.acd_sql_statements.proofs.RowCauses.{cause_page}
use Rattle.acd_sql_statements.proofs.lookups.kept_page.Goals as goal
use Rattle.acd_lemmas.proofs.Numbers.{still_below, below_is}

pub returns : goal.returns
returns g c = record {
  found =
      paged (λ (n : ℕ) (k : Kept). nat_lt n k.stamp) (λ a b k low h. still_below a b k.stamp low h) kept_values c.args.stamp c.args.limit
      (λ (x : Content). x.kept)
      (state g.S.Store c.args.conn.now) (state g.S.Store c.kept_rows.new.conn) c.in_ok-rows.rows c.meant.result c.min.result c.min-2.result c.min.ensures
      c.min-2.ensures c.in_ok-rows.ensures.found
      (record { same = c.meant.ensures.same; none = c.meant.ensures.none; fewer = c.meant.ensures.fewer });
  cause =
      cause_page (λ (n : ℕ) (k : Kept). nat_lt n k.stamp) (λ (k : Kept). k.stamp) kept_values (λ n k h. below_is n k.stamp h) (λ k. refl)
      (λ (x : Content). x.kept)
      (state g.S.Store c.args.conn.now) (state g.S.Store c.kept_rows.new.conn) c.in_ok-rows.rows c.meant.result c.args.stamp c.min.result c.min-2.result
      c.min.ensures c.in_ok-rows.ensures.cause c.in_ok-rows.ensures.found c.meant.ensures.other;
}

pub returns-in_err-rows : goal.returns-in_err-rows
returns-in_err-rows g c = record {
  found = finds_failed c.in_err-rows.ensures.found (search rules);
  cause =
      cause_as (state g.S.Store c.args.conn.now) (state g.S.Store c.kept_rows.new.conn) c.in_err-rows.field-0.0 c.from_residual.result (search rules)
      c.in_err-rows.ensures.cause;
}
