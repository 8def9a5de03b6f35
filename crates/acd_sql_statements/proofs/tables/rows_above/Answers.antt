use Rattle.std.proofs.Common.{sym, subst}
use Rattle.sqlite.specs.Held.{state}
use Rattle.acd_sql_columns.specs.AnyRows.{IsPageRows}
use Rattle.acd_sql_columns.specs.DatabaseView.{Sees}
use Rattle.acd_sql_statements.proofs.tables.rows_above.Goals as goal

pub returns-in-Events-clause-looks : goal.returns-in-Events-clause-looks
returns-in-Events-clause-looks g c = record {
  seen =
      λ d is. subst
      (λ l. Sees d (state g.S.Store c.args.conn.now) (state g.S.Store c.event_rows.new.conn) c.event_rows.result
      (λ rows. IsPageRows l c.args.number 1000 d.trees rows.items))
      (sym c.in-Events.is) (c.event_rows.ensures.seen d is);
}

pub returns-in-Kept-clause-looks : goal.returns-in-Kept-clause-looks
returns-in-Kept-clause-looks g c = record {
  seen =
      λ d is. subst
      (λ l. Sees d (state g.S.Store c.args.conn.now) (state g.S.Store c.kept_rows.new.conn) c.kept_rows.result
      (λ rows. IsPageRows l c.args.number 1000 d.trees rows.items))
      (sym c.in-Kept.is) (c.kept_rows.ensures.seen d is);
}
