use Rattle.std.proofs.Common.{◌≡◌, true, Err, IfErr, rules, sym, subst, arith}
use Rattle.sqlite.specs.State.{HasCleanDisk}
use Rattle.sqlite.specs.Held.{state}
use Rattle.acd_sql_columns.specs.Transactions.{Works}
use Rattle.acd_sql_columns.specs.SchemaSteps.{Builds, no_rows}
use Rattle.acd_sql_columns.specs.Schema.{no_schema}
use Rattle.acd_sql_columns.specs.AnyRows.{schema_of}
use Rattle.acd_sql_schema.specs.Creation.{FailsToMake, tables_in}
use Rattle.acd_sql_schema.proofs.CreateTable.{begins_with}
use Rattle.acd_sql_schema.proofs.CreationCauses.{commit_fails, make_still}
use Rattle.acd_sql_schema.proofs.create.set_up_empty.Goals as goal

pub returns-clause-failed : goal.returns-clause-failed
returns-clause-failed g c clean =
    let old = state g.S.Store c.args.conn.now in
    let begun = state g.S.Store (record c.args.conn.now { in_transaction = true }) in
    let mid = state g.S.Store c.make_version.new.tx.conn.now in
    let end = c.commit.new.self.0 in
    let same : end ≡ c.conn-2-1.given.0 = search rules in
    let late : HasCleanDisk (state g.S.Store end) = rw same clean in
    let middle : HasCleanDisk mid = omega (arith, late, c.commit.ensures.survives.clean) in
    let start = begins_with old no_schema (no_rows 0) c.requires.empty tt in
    let begin = c.transaction-tx.ensures.begun in
    let built : Builds mid (schema_of c.args.version) (no_rows (tables_in c.args.version)) = (rw begin at c.in_ok-make_version.ensures.made) middle start in
    let works : Works begun mid = rw begin at c.make_version.ensures.works in
    subst (λ h. IfErr c.commit.result (FailsToMake old (state g.S.Store h))) same
    (commit_fails begun mid (state g.S.Store end) c.commit.result works middle c.commit.ensures.survives.counts built.inside (c.commit.ensures.err late))

pub returns-in_err-make_version-clause-failed : goal.returns-in_err-make_version-clause-failed
returns-in_err-make_version-clause-failed g c clean =
    let old = state g.S.Store c.args.conn.now in
    let begun = state g.S.Store (record c.args.conn.now { in_transaction = true }) in
    let mid = state g.S.Store c.make_version.new.tx.conn.now in
    let end = c.drop-tx.new.self.0 in
    let same : end ≡ c.conn-1.given.0 = search rules in
    let late : HasCleanDisk (state g.S.Store end) = rw same clean in
    let early : HasCleanDisk mid = omega (arith, late, c.drop-tx.ensures.survives.clean) in
    let start = begins_with old no_schema (no_rows 0) c.requires.empty tt in
    let begin = c.transaction-tx.ensures.begun in
    let is : c.from_residual.result ≡ Err c.in_err-make_version.field-0.0 = search rules in
    subst (λ h. IfErr c.from_residual.result (FailsToMake old (state g.S.Store h))) same
    (subst (λ r. IfErr r (FailsToMake old (state g.S.Store end))) (sym is)
    (make_still begun mid (state g.S.Store end) c.in_err-make_version.field-0.0 c.drop-tx.ensures.survives.counts
    ((rw begin at c.in_err-make_version.ensures.failed) early start)))
