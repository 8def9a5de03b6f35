use Rattle.std.proofs.Common.{length}
use Rattle.sqlite.specs.Held.{state}
use Rattle.acd_sql_columns.proofs.Writes.Common.{changes_uncommitted}
use Rattle.acd_sql_statements.specs.SeveralEvents.{several_text, several_values, with_all_events}
use Rattle.acd_sql_statements.proofs.RefusalCauses.{by_one}
use Rattle.acd_sql_statements.proofs.SeveralPut.{put_several}
use Rattle.acd_sql_statements.proofs.several.insert_events.Goals as goal

pub returns : goal.returns
returns g c = record {
  same = c.write.ensures.same;
  works = c.write.ensures.works;
  put = λ clean.
      let old = state g.S.Store c.args.tx.now.conn.now in
      let new = state g.S.Store c.write.new.tx.conn.now in
      let es = c.args.items.now in
      changes_uncommitted (several_text (length es)) (several_values es) (with_all_events es) old new c.write.result
      (λ r count. put_several es c.requires.some c.requires.few r old new count)
      (rw (c.several_text.ensures, c.several_values-values.ensures) at (c.write.ensures.ran clean));
  failed =
      by_one (state g.S.Store c.args.tx.now.conn.now) (state g.S.Store c.write.new.tx.conn.now) (several_text (length c.args.items.now)) (several_values c.args.items.now)
      c.write.result
      (λ clean inside. rw (c.several_text.ensures, c.several_values-values.ensures) at (c.write.ensures.failed clean inside));
}
