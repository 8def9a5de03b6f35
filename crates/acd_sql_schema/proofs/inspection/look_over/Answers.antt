use Rattle.std.proofs.Common.{◌≡◌, Err, rules, subst, sym}
use Rattle.sqlite.specs.Held.{state}
use Rattle.std.specs.Prelude.{⊤}
use Rattle.sqlite.specs.Effect.{Database}
use Rattle.acd_sql_columns.specs.AnyRows.{IsCanonical}
use Rattle.acd_sql_statements.proofs.LookCauses.{looks_as, looks_then}
use Rattle.acd_sql_schema.specs.declared.fault.Found.{Found}
use Rattle.acd_sql_schema.specs.Inspection.{IsFound}
use Rattle.acd_sql_columns.specs.DatabaseView.{HasLooked}
use Rattle.acd_sql_schema.proofs.InspectionReads.{looked, looked_not, sees_at, was_idle}
use Rattle.acd_sql_schema.proofs.inspection.look_over.Goals as goal

pub returns-in_err-probe-clause-looked : goal.returns-in_err-probe-clause-looked
returns-in_err-probe-clause-looked g c =
    let is : c.from_residual.result ≡ Err c.in_err-probe.field-0.0 = search rules in
    subst (λ r. HasLooked (state g.S.Store c.args.conn.now) (state g.S.Store c.probe.new.conn) r (λ d f. IsFound d f)) (sym is)
    (looked_not (state g.S.Store c.args.conn.now) (state g.S.Store c.probe.new.conn) c.in_err-probe.field-0.0 (λ d f. IsFound d f)
    (c.in_err-probe.ensures.seen (state g.S.Store c.args.conn.now).now) c.probe.ensures.stops
    (c.is_autocommit-settled.ensures.settled
    (was_idle c.args.conn.now.in_transaction c.is_autocommit-settled.result c.requires c.is_autocommit-settled.ensures.value))
    (λ up. (c.schema-obeyed.ensures.live up).0))

pub returns-clause-looked : goal.returns-clause-looked
returns-clause-looked g c =
    looked (state g.S.Store c.args.conn.now) (state g.S.Store c.probe.new.conn) (state g.S.Store c.found_in.new.conn) c.found_in.result (λ d f. IsFound d f)
    (c.in_ok-probe.ensures.seen (state g.S.Store c.args.conn.now).now) c.in_ok-probe.ensures.up c.probe.ensures.stops
    (c.is_autocommit-settled.ensures.settled
    (was_idle c.args.conn.now.in_transaction c.is_autocommit-settled.result c.requires c.is_autocommit-settled.ensures.value))
    (λ up. (c.schema-obeyed.ensures.live up).0)
    c.found_in.ensures.seen

pub returns-in_err-probe-clause-cause : goal.returns-in_err-probe-clause-cause
returns-in_err-probe-clause-cause g c =
    let is : c.from_residual.result ≡ Err c.in_err-probe.field-0.0 = search rules in
    looks_as IsCanonical (λ d. ⊤) (λ d h. tt) (state g.S.Store c.args.conn.now) (state g.S.Store c.probe.new.conn) c.in_err-probe.field-0.0
    c.from_residual.result is c.in_err-probe.ensures.looked

pub returns-clause-cause : goal.returns-clause-cause
returns-clause-cause g c =
    looks_then IsCanonical (λ d. ⊤) IsCanonical (λ (d : Database) (x : Unit {0}). ⊤) (λ (d : Database) (f : Found). IsFound d f)
    (state g.S.Store c.args.conn.now) (state g.S.Store c.probe.new.conn) (state g.S.Store c.found_in.new.conn) tt c.found_in.result
    (λ d h. tt) c.in_ok-probe.ensures.looked (λ d h. c.in_ok-probe.ensures.seen d) (λ d h p. h)
    (λ d h. sees_at d (state g.S.Store c.probe.new.conn) (state g.S.Store c.found_in.new.conn) c.found_in.result (λ (d : Database) (f : Found). IsFound d f)
    c.found_in.ensures.seen)
    c.found_in.ensures.looked
