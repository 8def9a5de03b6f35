use Rattle.std.proofs.Common.{◌≡◌, true, Err, IfErr, OnOk, rules, sym, subst, arith}
use Rattle.sqlite.specs.State.{HasCleanDisk}
use Rattle.sqlite.specs.Held.{state}
use Rattle.acd_sql_columns.specs.Transactions.{Works}
use Rattle.acd_sql_columns.specs.SchemaSteps.{Builds, no_rows}
use Rattle.acd_sql_columns.specs.Schema.{no_schema, book_schema}
use Rattle.acd_sql_columns.proofs.Writes.TransactionEnds.{works_on}
use Rattle.acd_book.specs.Content.{empty_content}
use Rattle.acd_sql_columns.specs.Transactions.{HoldsContent}
use Rattle.acd_sql_schema.specs.Creation.{FailsToSetUp, MayMake}
use Rattle.acd_sql_schema.proofs.NewBook.{holds_new, makes_new, may_make}
use Rattle.acd_sql_schema.proofs.CreateTable.{begins_with}
use Rattle.acd_sql_schema.proofs.CreationCauses.{none_set_up, start_failed, still_failed, commit_stops}
use Rattle.acd_sql_schema.proofs.create.set_up.Goals as goal

pub returns-clause-failed : goal.returns-clause-failed
returns-clause-failed g c clean =
    let old = state g.S.Store c.args.conn.now in
    let begun = state g.S.Store (record c.args.conn.now { in_transaction = true }) in
    let made = state g.S.Store c.make_tables.new.tx.conn.now in
    let mid = state g.S.Store c.insert_meta.new.tx.conn.now in
    let end = c.commit.new.self.0 in
    let same : end ≡ c.conn-2-1.given.0 = search rules in
    let late : HasCleanDisk (state g.S.Store end) = rw same clean in
    let middle : HasCleanDisk mid = omega (arith, late, c.commit.ensures.survives.clean) in
    let early : HasCleanDisk made = omega (arith, middle, c.insert_meta.ensures.works.survives.clean) in
    let start = begins_with old no_schema (no_rows 0) c.requires.empty tt in
    let begin = c.transaction-tx.ensures.begun in
    let built : Builds made book_schema (no_rows 11) = (rw begin at c.in_ok-make_tables.ensures.made) early start in
    let works : Works begun mid = works_on begun made mid (rw begin at c.make_tables.ensures.works) c.insert_meta.ensures.works in
    subst (λ h. IfErr c.commit.result (FailsToSetUp old (state g.S.Store h) c.args.limits)) same
    (commit_stops c.args.limits begun mid (state g.S.Store end) c.commit.result works middle c.commit.ensures.survives.counts
    (c.in_ok-insert_meta.ensures.start middle built).inside (c.commit.ensures.err late))

pub returns-in_err-make_tables-clause-failed : goal.returns-in_err-make_tables-clause-failed
returns-in_err-make_tables-clause-failed g c clean =
    let old = state g.S.Store c.args.conn.now in
    let begun = state g.S.Store (record c.args.conn.now { in_transaction = true }) in
    let made = state g.S.Store c.make_tables.new.tx.conn.now in
    let end = c.drop-tx.new.self.0 in
    let same : end ≡ c.conn-1.given.0 = search rules in
    let late : HasCleanDisk (state g.S.Store end) = rw same clean in
    let early : HasCleanDisk made = omega (arith, late, c.drop-tx.ensures.survives.clean) in
    let start = begins_with old no_schema (no_rows 0) c.requires.empty tt in
    let begin = c.transaction-tx.ensures.begun in
    let is : c.from_residual.result ≡ Err c.in_err-make_tables.field-0.0 = search rules in
    subst (λ h. IfErr c.from_residual.result (FailsToSetUp old (state g.S.Store h) c.args.limits)) same
    (subst (λ r. IfErr r (FailsToSetUp old (state g.S.Store end) c.args.limits)) (sym is)
    (still_failed c.args.limits begun made (state g.S.Store end) c.in_err-make_tables.field-0.0 c.drop-tx.ensures.survives.counts
    (none_set_up c.args.limits begun made c.in_err-make_tables.field-0.0 ((rw begin at c.in_err-make_tables.ensures.failed) early start))))

pub returns-in_err-insert_meta-clause-failed : goal.returns-in_err-insert_meta-clause-failed
returns-in_err-insert_meta-clause-failed g c clean =
    let old = state g.S.Store c.args.conn.now in
    let begun = state g.S.Store (record c.args.conn.now { in_transaction = true }) in
    let made = state g.S.Store c.make_tables.new.tx.conn.now in
    let mid = state g.S.Store c.insert_meta.new.tx.conn.now in
    let end = c.drop-tx-in_err-insert_meta.new.self.0 in
    let same : end ≡ c.conn-in_err-insert_meta-1.given.0 = search rules in
    let late : HasCleanDisk (state g.S.Store end) = rw same clean in
    let middle : HasCleanDisk mid = omega (arith, late, c.drop-tx-in_err-insert_meta.ensures.survives.clean) in
    let early : HasCleanDisk made = omega (arith, middle, c.insert_meta.ensures.works.survives.clean) in
    let start = begins_with old no_schema (no_rows 0) c.requires.empty tt in
    let begin = c.transaction-tx.ensures.begun in
    let built : Builds made book_schema (no_rows 11) = (rw begin at c.in_ok-make_tables.ensures.made) early start in
    let is : c.from_residual-in_err-insert_meta.result ≡ Err c.in_err-insert_meta.field-0.0 = search rules in
    subst (λ h. IfErr c.from_residual-in_err-insert_meta.result (FailsToSetUp old (state g.S.Store h) c.args.limits)) same
    (subst (λ r. IfErr r (FailsToSetUp old (state g.S.Store end) c.args.limits)) (sym is)
    (still_failed c.args.limits begun mid (state g.S.Store end) c.in_err-insert_meta.field-0.0 c.drop-tx-in_err-insert_meta.ensures.survives.counts
    (start_failed c.args.limits begun made mid c.in_err-insert_meta.field-0.0 (rw begin at c.make_tables.ensures.works) early
    c.insert_meta.ensures.works.survives.counts built (c.in_err-insert_meta.ensures.failed middle built.inside))))

pub returns-clause-made : goal.returns-clause-made
returns-clause-made g c clean =
    let old = state g.S.Store c.args.conn.now in
    let begun = state g.S.Store (record c.args.conn.now { in_transaction = true }) in
    let made = state g.S.Store c.make_tables.new.tx.conn.now in
    let mid = state g.S.Store c.insert_meta.new.tx.conn.now in
    let end = c.commit.new.self.0 in
    let same : end ≡ c.conn-2-1.given.0 = search rules in
    let late : HasCleanDisk (state g.S.Store end) = rw same clean in
    let middle : HasCleanDisk mid = omega (arith, late, c.commit.ensures.survives.clean) in
    let early : HasCleanDisk made = omega (arith, middle, c.insert_meta.ensures.works.survives.clean) in
    let start = begins_with old no_schema (no_rows 0) c.requires.empty tt in
    let begin = c.transaction-tx.ensures.begun in
    let built : Builds made book_schema (no_rows 11) = (rw begin at c.in_ok-make_tables.ensures.made) early start in
    let good = holds_new c.args.limits mid (c.in_ok-insert_meta.ensures.start middle built) c.meta_is_good.ensures in
    subst (λ h. OnOk c.commit.result (HoldsContent (state g.S.Store h) (empty_content c.args.limits))) same
    (makes_new c.args.limits old begun mid (state g.S.Store end) good c.commit.result (c.commit.ensures.ok late))

pub returns-clause-stops : goal.returns-clause-stops
returns-clause-stops g c clean =
    let old = state g.S.Store c.args.conn.now in
    let begun = state g.S.Store (record c.args.conn.now { in_transaction = true }) in
    let made = state g.S.Store c.make_tables.new.tx.conn.now in
    let mid = state g.S.Store c.insert_meta.new.tx.conn.now in
    let end = c.commit.new.self.0 in
    let same : end ≡ c.conn-2-1.given.0 = search rules in
    let late : HasCleanDisk (state g.S.Store end) = rw same clean in
    let middle : HasCleanDisk mid = omega (arith, late, c.commit.ensures.survives.clean) in
    let early : HasCleanDisk made = omega (arith, middle, c.insert_meta.ensures.works.survives.clean) in
    let start = begins_with old no_schema (no_rows 0) c.requires.empty tt in
    let begin = c.transaction-tx.ensures.begun in
    let built : Builds made book_schema (no_rows 11) = (rw begin at c.in_ok-make_tables.ensures.made) early start in
    let good = holds_new c.args.limits mid (c.in_ok-insert_meta.ensures.start middle built) c.meta_is_good.ensures in
    let works : Works begun mid = works_on begun made mid (rw begin at c.make_tables.ensures.works) c.insert_meta.ensures.works in
    subst (λ h. MayMake old (state g.S.Store h) c.args.limits) same
    (may_make c.args.limits old begun mid (state g.S.Store end) good (λ db left. left) works.survives c.commit.ensures.survives middle late)
