use Rattle.std.proofs.Common.{ℕ, nat_lt, refl, rules}
use Rattle.sqlite.specs.Held.{state}
use Rattle.acd_sql_statements.proofs.ReadsInTurn.{finds_failed}
use Rattle.acd_terms.specs.declared.event.Event.{Event}
use Rattle.acd_book.specs.Content.{Content}
use Rattle.acd_sql_columns.specs.Rows.{event_values}
use Rattle.acd_sql_statements.proofs.Pages.{paged}
use Rattle.acd_sql_statements.proofs.ReadCauses.{cause_as}
use Rattle.acd_sql_statements.proofs.RowCauses.{cause_page}
use Rattle.acd_sql_statements.proofs.lookups.event_page.Goals as goal
use Rattle.acd_lemmas.proofs.Numbers.{still_below, below_is}

pub returns : goal.returns
returns g c = record {
  found =
      paged (λ (n : ℕ) (e : Event). nat_lt n e.number) (λ a b e low h. still_below a b e.number low h) event_values c.args.number c.args.limit
      (λ (x : Content). x.events)
      (state g.S.Store c.args.conn.now) (state g.S.Store c.event_rows.new.conn) c.in_ok-rows.rows c.meant.result c.min.result c.min-2.result c.min.ensures
      c.min-2.ensures c.in_ok-rows.ensures.found
      (record { same = c.meant.ensures.same; none = c.meant.ensures.none; fewer = c.meant.ensures.fewer });
  cause =
      cause_page (λ (n : ℕ) (e : Event). nat_lt n e.number) (λ (e : Event). e.number) event_values (λ n e h. below_is n e.number h) (λ e. refl)
      (λ (x : Content). x.events)
      (state g.S.Store c.args.conn.now) (state g.S.Store c.event_rows.new.conn) c.in_ok-rows.rows c.meant.result c.args.number c.min.result c.min-2.result
      c.min.ensures c.in_ok-rows.ensures.cause c.in_ok-rows.ensures.found c.meant.ensures.other;
}

pub returns-in_err-rows : goal.returns-in_err-rows
returns-in_err-rows g c = record {
  found = finds_failed c.in_err-rows.ensures.found (search rules);
  cause =
      cause_as (state g.S.Store c.args.conn.now) (state g.S.Store c.event_rows.new.conn) c.in_err-rows.field-0.0 c.from_residual.result (search rules)
      c.in_err-rows.ensures.cause;
}
