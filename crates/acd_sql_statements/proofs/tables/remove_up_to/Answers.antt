use Rattle.std.proofs.Common.{[], ◌∷◌}
use Rattle.sqlite.specs.Held.{state}
use Rattle.acd_sql_columns.specs.Values.{id_value}
use Rattle.acd_sql_columns.proofs.Writes.Common.{changes_uncommitted}
use Rattle.acd_sql_statements.specs.UpTo.{text_up_to, without_up_to}
use Rattle.acd_sql_statements.proofs.RefusalCauses.{by_one}
use Rattle.acd_sql_statements.proofs.UpTo.{removed_up_to}
use Rattle.acd_sql_statements.proofs.tables.remove_up_to.Goals as goal

pub returns : goal.returns
returns g c = record {
  same = c.write.ensures.same;
  works = c.write.ensures.works;
  put = λ clean.
      let old = state g.S.Store c.args.tx.now.conn.now in
      let new = state g.S.Store c.write.new.tx.conn.now in
      changes_uncommitted (text_up_to c.args.log) (id_value c.args.number ∷ []) (without_up_to c.args.log c.args.number) old new c.write.result
      (λ r count. removed_up_to c.args.log c.args.number r old new count)
      (rw (c.text_up_to.ensures, c.integer.ensures) at (c.write.ensures.ran clean));
  failed =
      by_one (state g.S.Store c.args.tx.now.conn.now) (state g.S.Store c.write.new.tx.conn.now) (text_up_to c.args.log) (id_value c.args.number ∷ [])
      c.write.result
      (λ clean inside. rw (c.text_up_to.ensures, c.integer.ensures) at (c.write.ensures.failed clean inside));
}
