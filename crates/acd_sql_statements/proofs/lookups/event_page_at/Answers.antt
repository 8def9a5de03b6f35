use Rattle.std.proofs.Common.{Some, rules, refl, ℕ}
use Rattle.sqlite.specs.Held.{state}
use Rattle.acd_sql_statements.proofs.ReadsInTurn.{finds_failed}
use Rattle.acd_book.specs.Content.{Content, is_at_after}
use Rattle.acd_sql_columns.specs.Rows.{event_values}
use Rattle.acd_sql_statements.proofs.Pages.{paged, falls_at_after}
use Rattle.acd_terms.specs.declared.event.Event.{Event}
use Rattle.acd_sql_statements.proofs.ReadCauses.{cause_as}
use Rattle.acd_sql_statements.proofs.RowCauses.{cause_page, number_is_above}
use Rattle.acd_sql_statements.proofs.lookups.event_page_at.Goals as goal

pub returns : goal.returns
returns g c = record {
  found =
      paged (is_at_after (Some c.args.device)) (falls_at_after (Some c.args.device)) event_values c.args.number c.args.limit (λ (x : Content). x.events)
      (state g.S.Store c.args.conn.now) (state g.S.Store c.event_rows_at.new.conn) c.in_ok-rows.rows c.meant.result c.min.result c.min-2.result c.min.ensures
      c.min-2.ensures c.in_ok-rows.ensures.found
      (record { same = c.meant.ensures.same; none = c.meant.ensures.none; fewer = c.meant.ensures.fewer });
  cause =
      cause_page (λ (n : ℕ) (e : Event). is_at_after (Some c.args.device) n e) (λ (e : Event). e.number) event_values
      (λ n e h. number_is_above (Some c.args.device) n e h) (λ e. refl) (λ (x : Content). x.events)
      (state g.S.Store c.args.conn.now) (state g.S.Store c.event_rows_at.new.conn) c.in_ok-rows.rows c.meant.result c.args.number c.min.result c.min-2.result
      c.min.ensures c.in_ok-rows.ensures.cause c.in_ok-rows.ensures.found c.meant.ensures.other;
}

pub returns-in_err-rows : goal.returns-in_err-rows
returns-in_err-rows g c = record {
  found = finds_failed c.in_err-rows.ensures.found (search rules);
  cause =
      cause_as (state g.S.Store c.args.conn.now) (state g.S.Store c.event_rows_at.new.conn) c.in_err-rows.field-0.0 c.from_residual.result (search rules)
      c.in_err-rows.ensures.cause;
}
