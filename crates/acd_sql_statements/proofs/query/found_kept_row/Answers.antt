use Rattle.std.proofs.Common.{[], ◌∷◌}
use Rattle.sqlite_value.specs.declared.value.Value.TheVariants.{Text}
use Rattle.sqlite.specs.Held.{state}
use Rattle.acd_sql_columns.specs.Values.{id_value}
use Rattle.acd_sql_columns.proofs.OneTable.Listings.{finds}
use Rattle.acd_sql_columns.proofs.Results.QueryAnswers.{key_plain, shows_kept_under}
use Rattle.acd_sql_columns.specs.declared.texts.TheConstants.{SELECT_KEPT_OF_REQUEST}
use Rattle.acd_sql_statements.proofs.ReadTexts.{kept_of_answered}
use Rattle.acd_sql_statements.proofs.query.found_kept_row.Goals as goal

pub returns : goal.returns
returns g c = record {
  found =
      let e = c.read.ensures in
      finds SELECT_KEPT_OF_REQUEST.now (Text c.args.requester.now ∷ id_value c.args.invoke ∷ []) (state g.S.Store c.args.conn.now)
      (state g.S.Store c.read.new.conn) c.read.result key_plain _
      (record {
        up = e.up;
        quiet = e.quiet;
        stops = e.stops;
        shown = λ clean. rw (c.text.ensures, c.as_bytes.ensures.value, c.small.ensures, c.number.ensures.value) at (e.shown clean);
      })
      (shows_kept_under c.args.requester.now c.args.invoke _ _);
  cause =
      (rw (c.text.ensures, c.as_bytes.ensures.value, c.small.ensures, c.number.ensures.value) at c.read.ensures.cause)
      (kept_of_answered c.args.requester.now c.args.invoke);
}
