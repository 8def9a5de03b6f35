use Rattle.std.proofs.Common.{◌≡◌, ℕ, Err, inl, inr, rules, arith, ◌∙◌}
use Rattle.sqlite.specs.Held.{state}
use Rattle.acd_sql_columns.proofs.Writes.TransactionEnds.{works_on}
use Rattle.acd_sql_columns.specs.Descriptions.{the_text}
use Rattle.acd_sql_statements.proofs.TheTexts.{the_said}
use Rattle.sqlite.specs.State.{HasCleanDisk}
use Rattle.acd_sql_columns.proofs.FileTables.DescribedTable.{Updates, updated_in, put_in, none_in}
use Rattle.acd_sql_statements.specs.WriteRefusals.{HasNoRecord, RefusesOn, RefusesPut}
use Rattle.acd_sql_statements.proofs.RefusalCauses.{refused_on, by_more, by_known, by_same, by_later, still_uncommitted, unless_ok}
use Rattle.acd_sql_statements.proofs.put.put.Goals as goal

pub returns-then-changed-gt0 : goal.returns-then-changed-gt0
returns-then-changed-gt0 g c = record {
  same = c.run.ensures.same;
  works = c.run.ensures.works;
  put = λ clean content uncommitted.
      updated_in g.R.Stored.descr g.met.R.Stored.described (the_text g.R.Stored.descr.update)
      (the_said g.R.Stored.descr.update (Updates g.R.Stored.descr) c.requires.changes g.met.R.Stored.described.updates) c.args.item.now
      (g.met.R.Stored.reads c.args.item.now) content (state g.S.Store c.args.tx.now.conn.now) (state g.S.Store c.run.new.tx.conn.now)
      c.in_ok-changed.changed uncommitted
      (rw (c.update_text.ensures) at (c.in_ok-changed.ensures.ran clean)) (λ none. omega (arith, none, c.if-changed-gt0.true));
  failed = λ clean r uncommitted. tt;
}

pub returns : goal.returns
returns g c = record {
  same = c.run-2.ensures.same ∙ c.run.ensures.same;
  works = works_on _ _ _ c.run.ensures.works c.run-2.ensures.works;
  put = λ clean content uncommitted.
      let old = state g.S.Store c.args.tx.now.conn.now in
      let mid = state g.S.Store c.run.new.tx.conn.now in
      let new = state g.S.Store c.run-2.new.tx.conn.now in
      let middle : HasCleanDisk mid = omega (arith, clean, c.run-2.ensures.works.survives.clean) in
      let none : c.in_ok-changed.changed ≡ 0 = omega (arith, c.if-changed-gt0.false) in
      put_in g.R.Stored.descr g.met.R.Stored.described (the_text g.R.Stored.descr.update)
      (the_said g.R.Stored.descr.update (Updates g.R.Stored.descr) c.requires.changes g.met.R.Stored.described.updates) c.args.item.now
      (g.met.R.Stored.reads c.args.item.now) content old mid new c.in_ok-changed.changed c.in_ok-run.field-0 uncommitted
      (rw (c.update_text.ensures) at (c.in_ok-changed.ensures.ran middle)) none (rw (c.texts.ensures.insert) at (c.in_ok-run.ensures.ran clean));
  failed = λ clean r uncommitted. tt;
}

pub returns-in_err-changed : goal.returns-in_err-changed
returns-in_err-changed g c = record {
  same = c.run.ensures.same;
  works = c.run.ensures.works;
  put = λ clean. unless_ok _ c.in_err-changed.field-0.0 c.from_residual.result (search rules);
  failed =
      let old = state g.S.Store c.args.tx.now.conn.now in
      let mid = state g.S.Store c.run.new.tx.conn.now in
      let x = c.args.item.now in
      let values = g.R.Stored.descr.values x in
      by_more old mid (RefusesOn (the_text g.R.Stored.descr.update) values) (RefusesPut g.R.Stored.descr (the_text g.R.Stored.descr.update) x)
      c.from_residual.result (λ limit r h. inl h)
      (by_same old mid (RefusesOn (the_text g.R.Stored.descr.update) values) c.in_err-changed.field-0.0 c.from_residual.result (search rules)
      (λ clean r d. refused_on old mid (the_text g.R.Stored.descr.update) values c.in_err-changed.field-0.0 r d
      (rw (c.update_text.ensures) at (c.in_err-changed.ensures.failed clean d.inside))));
}

pub returns-in_err-run : goal.returns-in_err-run
returns-in_err-run g c = record {
  same = c.run-2.ensures.same ∙ c.run.ensures.same;
  works = works_on _ _ _ c.run.ensures.works c.run-2.ensures.works;
  put = λ clean. unless_ok _ c.in_err-run.field-0.0 c.from_residual-in_err-run.result (search rules);
  failed =
      let old = state g.S.Store c.args.tx.now.conn.now in
      let mid = state g.S.Store c.run.new.tx.conn.now in
      let new = state g.S.Store c.run-2.new.tx.conn.now in
      let x = c.args.item.now in
      let d = g.R.Stored.descr in
      let none : c.in_ok-changed.changed ≡ 0 = omega (arith, c.if-changed-gt0.false) in
      by_known old new (HasNoRecord d x) (RefusesOn d.insert (d.values x)) (RefusesPut d (the_text g.R.Stored.descr.update) x) c.from_residual-in_err-run.result
      (λ clean r uncommitted.
      let middle : HasCleanDisk mid = omega (arith, clean, c.run-2.ensures.works.survives.clean) in
      none_in d g.met.R.Stored.described (the_text g.R.Stored.descr.update)
      (the_said g.R.Stored.descr.update (Updates g.R.Stored.descr) c.requires.changes g.met.R.Stored.described.updates) x r old mid c.in_ok-changed.changed
      uncommitted (rw (c.update_text.ensures) at (c.in_ok-changed.ensures.ran middle)) none)
      (λ limit r none h. inr (none, h))
      (by_same old new (RefusesOn d.insert (d.values x)) c.in_err-run.field-0.0 c.from_residual-in_err-run.result (search rules)
      (by_later {A = ℕ} old mid new (λ r. r) (RefusesOn d.insert (d.values x)) (Err c.in_err-run.field-0.0) c.run.ensures.works c.run-2.ensures.works
      (λ middle r uncommitted. still_uncommitted d g.met.R.Stored.described (the_text g.R.Stored.descr.update)
      (the_said g.R.Stored.descr.update (Updates g.R.Stored.descr) c.requires.changes g.met.R.Stored.described.updates) x r old mid c.in_ok-changed.changed
      uncommitted (rw (c.update_text.ensures) at (c.in_ok-changed.ensures.ran middle)) none)
      (λ clean r uncommitted. refused_on mid new d.insert (d.values x) c.in_err-run.field-0.0 r uncommitted
      (rw c.texts.ensures.insert at (c.in_err-run.ensures.failed clean uncommitted.inside)))));
}
