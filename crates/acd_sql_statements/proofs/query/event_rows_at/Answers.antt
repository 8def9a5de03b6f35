use Rattle.std.proofs.Common.{[], ◌∷◌}
use Rattle.sqlite.specs.Held.{state}
use Rattle.acd_sql_columns.specs.Values.{id_value}
use Rattle.acd_sql_columns.proofs.OneTable.Listings.{finds}
use Rattle.acd_sql_columns.proofs.Results.QueryAnswers.{events_at_plain, shows_events_at}
use Rattle.acd_sql_columns.specs.declared.texts.TheConstants.{SELECT_EVENTS_AT_DEVICE}
use Rattle.acd_sql_statements.proofs.ReadTexts.{events_at_answered}
use Rattle.acd_sql_statements.proofs.query.event_rows_at.Goals as goal

pub returns : goal.returns
returns g c = record {
  found =
      let e = c.read.ensures in
      finds SELECT_EVENTS_AT_DEVICE.now (id_value c.args.number ∷ id_value c.args.device ∷ id_value c.args.limit ∷ []) (state g.S.Store c.args.conn.now)
      (state g.S.Store c.read.new.conn) c.read.result events_at_plain _
      (record {
        up = e.up;
        quiet = e.quiet;
        stops = e.stops;
        shown = λ clean. rw (c.integer.ensures, c.device.ensures, c.integer-2.ensures) at (e.shown clean);
      })
      (shows_events_at c.args.device c.args.number c.args.limit _ _);
  cause = (rw (c.integer.ensures, c.device.ensures, c.integer-2.ensures) at c.read.ensures.cause) (events_at_answered c.args.number c.args.device c.args.limit);
}
