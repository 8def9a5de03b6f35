use Rattle.std.proofs.Common.{sym, subst}
use Rattle.sqlite.specs.Held.{state}
use Rattle.acd_sql_columns.specs.AnyRows.{FindsLow}
use Rattle.acd_sql_columns.specs.DatabaseView.{Sees}
use Rattle.acd_sql_statements.proofs.tables.low_rows.Goals as goal

pub returns-in-Events-clause-looks : goal.returns-in-Events-clause-looks
returns-in-Events-clause-looks g c = record {
  seen =
      λ d is. subst
      (λ l. Sees d (state g.S.Store c.args.conn.now) (state g.S.Store c.low_event_rows.new.conn) c.low_event_rows.result
      (λ rows. FindsLow l d.trees rows.items))
      (sym c.in-Events.is) (c.low_event_rows.ensures.looks.seen d is);
}

pub returns-in-Kept-clause-looks : goal.returns-in-Kept-clause-looks
returns-in-Kept-clause-looks g c = record {
  seen =
      λ d is. subst
      (λ l. Sees d (state g.S.Store c.args.conn.now) (state g.S.Store c.low_kept_rows.new.conn) c.low_kept_rows.result
      (λ rows. FindsLow l d.trees rows.items))
      (sym c.in-Kept.is) (c.low_kept_rows.ensures.looks.seen d is);
}
