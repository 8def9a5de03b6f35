use Rattle.std.proofs.Common.{◌≡◌, [], Err, rules, sym, subst}
use Rattle.std.specs.Prelude.{⊤}
use Rattle.sqlite.specs.State.{HasCleanDisk, IsUnchanged}
use Rattle.acd_sql_columns.specs.DatabaseView.{Sees}
use Rattle.sqlite.specs.Held.{state}
use Rattle.sqlite.proofs.Callers.{never_commits}
use Rattle.acd_sql_columns.proofs.Results.Queries.{probe_text, probe_plain, quiet_unchanged, quiet_failed, quiet_stops, row_same, row_fails}
use Rattle.acd_sql_columns.proofs.Results.SnapshotReads.{sees_failed, sees_shown}
use Rattle.acd_sql_statements.specs.ReadFailures.{HasReadCause}
use Rattle.acd_sql_statements.specs.Looks.{HasLookCause}
use Rattle.acd_sql_statements.proofs.ReadCauses.{cause_none, cause_probe}
use Rattle.acd_sql_statements.proofs.LookCauses.{looks_none, looks_probe}
use Rattle.acd_sql_statements.proofs.read.probe.Goals as goal

pub returns-in_err-query_row-clause-quiet : goal.returns-in_err-query_row-clause-quiet
returns-in_err-query_row-clause-quiet g c =
    quiet_failed (state g.S.Store c.args.conn.now) (state g.S.Store c.query_row.new.self) c.query_row.ensures.survives
    (λ clean. row_fails probe_text [] (state g.S.Store c.args.conn.now) (state g.S.Store c.query_row.new.self) c.in_err-query_row.field-0.0 (probe_plain _)
    (c.in_err-query_row.ensures.row clean))

pub returns-in_err-query_row-clause-stops : goal.returns-in_err-query_row-clause-stops
returns-in_err-query_row-clause-stops g c clean =
    quiet_stops (state g.S.Store c.args.conn.now) (state g.S.Store c.query_row.new.self) c.query_row.ensures.survives clean
    (λ db. never_commits probe_text [] (state g.S.Store c.args.conn.now) db (probe_plain _))

pub returns-clause-up : goal.returns-clause-up
returns-clause-up g c clean =
    (row_same probe_text [] (state g.S.Store c.args.conn.now) (state g.S.Store c.query_row.new.self) c.in_ok-query_row.field-0 (probe_plain _)
    (c.in_ok-query_row.ensures.row clean)).0.is_open

pub returns-clause-quiet : goal.returns-clause-quiet
returns-clause-quiet g c =
    quiet_unchanged (state g.S.Store c.args.conn.now) (state g.S.Store c.query_row.new.self) c.query_row.ensures.survives
    (λ clean. row_same probe_text [] (state g.S.Store c.args.conn.now) (state g.S.Store c.query_row.new.self) c.in_ok-query_row.field-0 (probe_plain _)
    (c.in_ok-query_row.ensures.row clean))

pub returns-clause-stops : goal.returns-clause-stops
returns-clause-stops g c clean =
    quiet_stops (state g.S.Store c.args.conn.now) (state g.S.Store c.query_row.new.self) c.query_row.ensures.survives clean
    (λ db. never_commits probe_text [] (state g.S.Store c.args.conn.now) db (probe_plain _))

pub returns-in_err-query_row-clause-seen : goal.returns-in_err-query_row-clause-seen
returns-in_err-query_row-clause-seen g c d =
    let is : c.from_residual.result ≡ Err c.in_err-query_row.field-0.0 = search rules in
    subst (λ r. Sees {A = Unit {0}} d (state g.S.Store c.args.conn.now) (state g.S.Store c.query_row.new.self) r (λ x. ⊤)) (sym is)
    (sees_failed d (state g.S.Store c.args.conn.now) (state g.S.Store c.query_row.new.self) c.query_row.ensures.survives
    (λ old_database db. never_commits probe_text [] (state g.S.Store c.args.conn.now) db (probe_plain _))
    c.in_err-query_row.field-0.0 (λ x. ⊤) (λ clean. row_fails probe_text [] (state g.S.Store c.args.conn.now) (state g.S.Store c.query_row.new.self)
    c.in_err-query_row.field-0.0 (probe_plain _) (c.in_err-query_row.ensures.row clean)))

pub returns-clause-seen : goal.returns-clause-seen
returns-clause-seen g c d =
    let same : HasCleanDisk (state g.S.Store c.query_row.new.self) → IsUnchanged (state g.S.Store c.args.conn.now) (state g.S.Store c.query_row.new.self) =
    λ clean. row_same probe_text [] (state g.S.Store c.args.conn.now) (state g.S.Store c.query_row.new.self) c.in_ok-query_row.field-0 (probe_plain _)
    (c.in_ok-query_row.ensures.row clean) in
    sees_shown d (state g.S.Store c.args.conn.now) (state g.S.Store c.query_row.new.self) c.query_row.ensures.survives
    (λ old_database db. never_commits probe_text [] (state g.S.Store c.args.conn.now) db (probe_plain _))
    tt (λ x. ⊤) (λ clean. ((same clean).0.was_open, (same clean).0.is_open)) (λ clean old_database. same clean) (λ clean old_database. tt)

pub returns-in_err-query_row-clause-cause : goal.returns-in_err-query_row-clause-cause
returns-in_err-query_row-clause-cause g c =
    let is : c.from_residual.result ≡ Err c.in_err-query_row.field-0.0 = search rules in
    subst (λ r. HasReadCause {A = Unit {0}} (state g.S.Store c.args.conn.now) (state g.S.Store c.query_row.new.self) r) (sym is)
    (cause_probe (state g.S.Store c.args.conn.now) (state g.S.Store c.query_row.new.self) c.in_err-query_row.field-0.0 c.query_row.ensures.survives
    c.query_row.ensures.mode c.in_err-query_row.ensures.row)

pub returns-clause-cause : goal.returns-clause-cause
returns-clause-cause g c =
    cause_none (state g.S.Store c.args.conn.now) (state g.S.Store c.query_row.new.self) tt c.query_row.ensures.survives c.query_row.ensures.mode

pub returns-in_err-query_row-clause-looked : goal.returns-in_err-query_row-clause-looked
returns-in_err-query_row-clause-looked g c =
    let is : c.from_residual.result ≡ Err c.in_err-query_row.field-0.0 = search rules in
    subst (λ r. HasLookCause {A = Unit {0}} (λ d. ⊤) (state g.S.Store c.args.conn.now) (state g.S.Store c.query_row.new.self) r) (sym is)
    (looks_probe (λ d. ⊤) (state g.S.Store c.args.conn.now) (state g.S.Store c.query_row.new.self) c.in_err-query_row.field-0.0 c.query_row.ensures.survives
    c.query_row.ensures.mode c.in_err-query_row.ensures.row)

pub returns-clause-looked : goal.returns-clause-looked
returns-clause-looked g c =
    looks_none (λ d. ⊤) (state g.S.Store c.args.conn.now) (state g.S.Store c.query_row.new.self) tt c.query_row.ensures.survives c.query_row.ensures.mode
