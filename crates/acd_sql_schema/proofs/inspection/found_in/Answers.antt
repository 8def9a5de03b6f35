use Rattle.std.proofs.Common.{◌≡◌, [], true, Err, rules, sym, subst, ap, ◌∙◌}
use Rattle.sqlite_schema.specs.declared.schema.Schema.{Schema}
use Rattle.sqlite.specs.Effect.{Database}
use Rattle.sqlite.specs.Held.{state}
use Rattle.acd_sql_columns.specs.AnyRows.{has_meta, BeginsAsBook, IsCanonical, schema_of}
use Rattle.acd_sql_columns.proofs.Results.SnapshotReads.{sees_here}
use Rattle.acd_sql_statements.specs.Looks.{HasLookCause, HasGood}
use Rattle.acd_sql_statements.proofs.LookCauses.{looks_at, looks_lacks, looks_still}
use Rattle.acd_sql_schema.specs.declared.fault.AdoptFault.TheVariants.{Store}
use Rattle.acd_sql_schema.specs.declared.fault.Found.{Found}
use Rattle.acd_sql_schema.specs.declared.fault.Found.TheVariants.{Fault}
use Rattle.acd_sql_schema.specs.Inspection.{HasCanonical, IsFound, other}
use Rattle.acd_sql_schema.proofs.Faults.{canonical_there}
use Rattle.acd_sql_schema.proofs.inspection.found_in.Goals as goal

pub returns-in-Whole-clause-seen : goal.returns-in-Whole-clause-seen
returns-in-Whole-clause-seen g c =
    c.found_in_whole.ensures.seen (state g.S.Store c.args.conn.now).now (rw (c.in-Whole.is, c.schema-2.ensures.value) at c.in_ok-likeness.ensures.like)

pub returns-in-First-clause-seen : goal.returns-in-First-clause-seen
returns-in-First-clause-seen g c =
    c.found_in_first.ensures.seen (state g.S.Store c.args.conn.now).now (rw (c.in-First.is, c.schema-2.ensures.value) at c.in_ok-likeness.ensures.like)

pub returns-in-Other-clause-seen : goal.returns-in-Other-clause-seen
returns-in-Other-clause-seen g c =
    let unlike = rw (c.in-Other.is, c.schema-2.ensures.value) at c.in_ok-likeness.ensures.like in
    let has : has_meta (state g.S.Store c.args.conn.now).now.schema.tables ≡ true =
    sym (c.has_meta.ensures ∙ ap (λ (s : Schema). has_meta s.tables) c.schema.ensures.value) ∙ c.if-not-has_meta.false in
    sees_here (state g.S.Store c.args.conn.now).now (state g.S.Store c.args.conn.now) (Fault Store)
    (λ (f : Found). IsFound (state g.S.Store c.args.conn.now).now f) (λ old_database. other has unlike.0)

pub returns-then-not-has_meta-clause-looked : goal.returns-then-not-has_meta-clause-looked
returns-then-not-has_meta-clause-looked g c = looks_still IsCanonical (state g.S.Store c.args.conn.now) _

pub returns-in_err-likeness-clause-looked : goal.returns-in_err-likeness-clause-looked
returns-in_err-likeness-clause-looked g c =
    let is : c.from_residual.result ≡ Err c.in_err-likeness.field-0.0 = search rules in
    subst (λ r. HasLookCause {A = Found} IsCanonical (state g.S.Store c.args.conn.now) (state g.S.Store c.args.conn.now) r) (sym is)
    (looks_lacks IsCanonical (state g.S.Store c.args.conn.now) (Err c.in_err-likeness.field-0.0) c.in_err-likeness.ensures.lacks)

pub returns-in-Whole-clause-looked : goal.returns-in-Whole-clause-looked
returns-in-Whole-clause-looked g c =
    let whole = rw (c.in-Whole.is, c.schema-2.ensures.value) at c.in_ok-likeness.ensures.like in
    looks_at IsCanonical (HasCanonical (λ s. s ≡ schema_of c.in-Whole.version)) (state g.S.Store c.args.conn.now) (state g.S.Store c.found_in_whole.new.conn)
    c.found_in_whole.result
    (λ d old_database canonical. canonical_there c.in-Whole.version (state g.S.Store c.args.conn.now) d whole old_database canonical)
    c.found_in_whole.ensures.looked

pub returns-in-First-clause-looked : goal.returns-in-First-clause-looked
returns-in-First-clause-looked g c =
    let first = rw (c.in-First.is, c.schema-2.ensures.value) at c.in_ok-likeness.ensures.like in
    looks_at IsCanonical (HasGood BeginsAsBook []) (state g.S.Store c.args.conn.now) (state g.S.Store c.found_in_first.new.conn) c.found_in_first.result
    (λ d old_database canonical. (subst (λ (x : Database). BeginsAsBook x.schema) old_database.now first.0, tt)) c.found_in_first.ensures.looked

pub returns-in-Other-clause-looked : goal.returns-in-Other-clause-looked
returns-in-Other-clause-looked g c = looks_still IsCanonical (state g.S.Store c.args.conn.now) _
