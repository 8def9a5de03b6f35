use Rattle.std.proofs.Common.{◌≡◌, [], ◌∙◌, Err, IfErr, rules, sym, subst, arith}
use Rattle.sqlite.specs.State.{HasCleanDisk}
use Rattle.sqlite.specs.Held.{state}
use Rattle.acd_sql_columns.proofs.Writes.TransactionEnds.{works_on}
use Rattle.acd_sql_schema.specs.Migration.{FailsToMigrate}
use Rattle.acd_sql_schema.proofs.MigratedTables.{altered_if, old_builds, rows_of, unmade, version_refused_if}
use Rattle.acd_sql_schema.proofs.migration.alter.Goals as goal

pub returns-clause-same : goal.returns-clause-same
returns-clause-same g c = c.set_second_version.ensures.same ∙ (c.make_two.ensures []).same

pub returns-in_err-make_two-clause-same : goal.returns-in_err-make_two-clause-same
returns-in_err-make_two-clause-same g c = (c.make_two.ensures []).same

pub returns-clause-works : goal.returns-clause-works
returns-clause-works g c = works_on _ _ _ (c.make_two.ensures []).works c.set_second_version.ensures.works

pub returns-in_err-make_two-clause-works : goal.returns-in_err-make_two-clause-works
returns-in_err-make_two-clause-works g c = (c.make_two.ensures []).works

pub returns-clause-altered : goal.returns-clause-altered
returns-clause-altered g c clean inside is =
    let mid = state g.S.Store c.make_two.new.tx.conn.now in
    let middle : HasCleanDisk mid = omega (arith, clean, c.set_second_version.ensures.works.survives.clean) in
    altered_if (state g.S.Store c.args.tx.now.conn.now) mid (state g.S.Store c.set_second_version.new.tx.conn.now) c.set_second_version.result
    (λ rows. (c.in_ok-make_two.ensures rows).made middle) (c.set_second_version.ensures.version clean) inside is

pub returns-in_err-make_two-clause-failed : goal.returns-in_err-make_two-clause-failed
returns-in_err-make_two-clause-failed g c clean inside is =
    let old = state g.S.Store c.args.tx.now.conn.now in
    let new = state g.S.Store c.make_two.new.tx.conn.now in
    let gone : c.from_residual.result ≡ Err c.in_err-make_two.field-0.0 = search rules in
    subst (λ r. IfErr r (FailsToMigrate old new)) (sym gone)
    (unmade old new c.in_err-make_two.field-0.0 ((c.in_err-make_two.ensures (rows_of old.now.trees)).failed clean (old_builds old inside is)))

pub returns-clause-failed : goal.returns-clause-failed
returns-clause-failed g c clean inside is =
    let old = state g.S.Store c.args.tx.now.conn.now in
    let mid = state g.S.Store c.make_two.new.tx.conn.now in
    let new = state g.S.Store c.set_second_version.new.tx.conn.now in
    let middle : HasCleanDisk mid = omega (arith, clean, c.set_second_version.ensures.works.survives.clean) in
    let two = c.in_ok-make_two.ensures (rows_of old.now.trees) in
    let built = two.made middle (old_builds old inside is) in
    version_refused_if old mid new c.set_second_version.result two.works middle c.set_second_version.ensures.works.survives.counts built
    (c.set_second_version.ensures.failed clean built.inside)
