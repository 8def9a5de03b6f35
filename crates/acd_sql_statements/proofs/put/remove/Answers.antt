use Rattle.std.proofs.Common.{[], ◌∷◌}
use Rattle.sqlite.specs.Held.{state}
use Rattle.acd_sql_columns.specs.Descriptions.{the_text}
use Rattle.acd_sql_columns.specs.Values.{id_value}
use Rattle.acd_sql_columns.proofs.Writes.Common.{changes_uncommitted}
use Rattle.acd_sql_columns.proofs.FileTables.DescribedTable.{Deletes, removed_in}
use Rattle.acd_sql_statements.proofs.RefusalCauses.{by_one}
use Rattle.acd_sql_statements.proofs.TheTexts.{the_said}
use Rattle.acd_sql_statements.proofs.put.remove.Goals as goal

pub returns : goal.returns
returns g c = record {
  same = c.write.ensures.same;
  works = c.write.ensures.works;
  put = λ clean.
      let old = state g.S.Store c.args.tx.now.conn.now in
      let new = state g.S.Store c.write.new.tx.conn.now in
      changes_uncommitted (the_text g.R.Stored.descr.delete) (id_value c.args.key ∷ []) _ old new c.write.result
      (λ x count. removed_in g.R.Stored.descr g.met.R.Stored.described (the_text g.R.Stored.descr.delete)
      (the_said g.R.Stored.descr.delete (Deletes g.R.Stored.descr) c.requires.removes g.met.R.Stored.described.deletes) c.args.key x old new count)
      (rw (c.integer.ensures, c.delete_text.ensures) at (c.write.ensures.ran clean));
  failed =
      by_one (state g.S.Store c.args.tx.now.conn.now) (state g.S.Store c.write.new.tx.conn.now) (the_text g.R.Stored.descr.delete) (id_value c.args.key ∷ [])
      c.write.result
      (λ clean inside. rw (c.integer.ensures, c.delete_text.ensures) at (c.write.ensures.failed clean inside));
}
