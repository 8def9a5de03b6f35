use Rattle.std.proofs.Common.{◌≡◌, true, Err, IfErr, refl, rules, sym, subst, arith}
use Rattle.sqlite.specs.State.{HasCleanDisk}
use Rattle.sqlite.specs.Held.{state}
use Rattle.acd_sql_columns.specs.Transactions.{Works}
use Rattle.acd_sql_schema.specs.Migration.{FailsToMigrate, IsAltered}
use Rattle.acd_sql_schema.proofs.MigratedTables.{still_unmade, unmade_if}
use Rattle.acd_sql_schema.proofs.CreationCauses.{commit_fails}
use Rattle.acd_sql_schema.proofs.migration.migrate.Goals as goal

pub returns-clause-failed : goal.returns-clause-failed
returns-clause-failed g c clean is =
    let old = state g.S.Store c.args.conn.now in
    let begun = state g.S.Store (record c.args.conn.now { in_transaction = true }) in
    let mid = state g.S.Store c.alter.new.tx.conn.now in
    let end = c.commit.new.self.0 in
    let same : end ≡ c.conn-2-1.given.0 = search rules in
    let late : HasCleanDisk (state g.S.Store end) = rw same clean in
    let middle : HasCleanDisk mid = omega (arith, late, c.commit.ensures.survives.clean) in
    let begin = c.transaction-tx.ensures.begun in
    let altered : IsAltered begun mid = (rw begin at c.in_ok-alter.ensures.altered) middle refl is in
    let works : Works begun mid = rw begin at c.alter.ensures.works in
    subst (λ h. IfErr c.commit.result (FailsToMigrate old (state g.S.Store h))) same
    (unmade_if begun (state g.S.Store end) c.commit.result
    (commit_fails begun mid (state g.S.Store end) c.commit.result works middle c.commit.ensures.survives.counts altered.inside (c.commit.ensures.err late)))

pub returns-in_err-alter-clause-failed : goal.returns-in_err-alter-clause-failed
returns-in_err-alter-clause-failed g c clean is =
    let old = state g.S.Store c.args.conn.now in
    let begun = state g.S.Store (record c.args.conn.now { in_transaction = true }) in
    let mid = state g.S.Store c.alter.new.tx.conn.now in
    let end = c.drop-tx.new.self.0 in
    let same : end ≡ c.conn-1.given.0 = search rules in
    let late : HasCleanDisk (state g.S.Store end) = rw same clean in
    let early : HasCleanDisk mid = omega (arith, late, c.drop-tx.ensures.survives.clean) in
    let begin = c.transaction-tx.ensures.begun in
    let gone : c.from_residual.result ≡ Err c.in_err-alter.field-0.0 = search rules in
    subst (λ h. IfErr c.from_residual.result (FailsToMigrate old (state g.S.Store h))) same
    (subst (λ r. IfErr r (FailsToMigrate old (state g.S.Store end))) (sym gone)
    (still_unmade begun mid (state g.S.Store end) c.in_err-alter.field-0.0 c.drop-tx.ensures.survives.counts
    ((rw begin at c.in_err-alter.ensures.failed) early refl is)))
