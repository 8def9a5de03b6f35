use Rattle.std.proofs.Common.{◌≡◌, Option, Ok, Some, rules, subst, sym}
use Rattle.sqlite.specs.Held.{state}
use Rattle.acd_sql_columns.specs.Relations.{meta_of}
use Rattle.acd_sql_columns.specs.declared.meta.Meta.{Meta}
use Rattle.acd_sqlbook.specs.Calls.{HasRead}
use Rattle.acd_sqlbook.specs.Counters.{AreCounters}
use Rattle.acd_sqlbook.proofs.AfterProbe.{reads_as, reads_after, reads_held}
use Rattle.acd_sql_statements.proofs.ReadCauses.{cause_as, cause_after, cause_on}
use Rattle.acd_sqlbook.proofs.ready.Ready.meta.Goals as goal

pub returns-in-Some-clause-read : goal.returns-in-Some-clause-read
returns-in-Some-clause-read g c =
    let old = state g.S.Store c.args.self.now.conn in
    let new = state g.S.Store c.refresh.new.self.conn in
    let is : c.args.held ≡ Some c.in-Some.meta = search rules in
    subst (λ (o : Option Meta). HasRead old new (Ok c.in-Some.meta) (λ c' found. AreCounters o c' → found ≡ meta_of c'.rows)) (sym is)
    (reads_held old new c.in-Some.meta c.refresh.ensures.quiet c.in_ok-refresh.ensures.up c.refresh.ensures.stops)

pub returns-in-None-clause-read : goal.returns-in-None-clause-read
returns-in-None-clause-read g c =
    reads_as (state g.S.Store c.args.self.now.conn) (state g.S.Store c.read_meta.new.conn) c.read_meta.result (λ c' meta. meta ≡ meta_of c'.rows)
    (λ c' meta. AreCounters c.args.held c' → meta ≡ meta_of c'.rows) (λ c' meta is of. is)
    (reads_after (state g.S.Store c.args.self.now.conn) (state g.S.Store c.refresh.new.self.conn) (state g.S.Store c.read_meta.new.conn) c.read_meta.result
    (λ c' meta. meta ≡ meta_of c'.rows)
    c.refresh.ensures.quiet c.in_ok-refresh.ensures.up c.refresh.ensures.stops c.read_meta.ensures.found)

pub returns-in_err-refresh-clause-cause : goal.returns-in_err-refresh-clause-cause
returns-in_err-refresh-clause-cause g c =
    cause_as (state g.S.Store c.args.self.now.conn) (state g.S.Store c.refresh.new.self.conn) c.in_err-refresh.field-0.0 c.from_residual.result (search rules)
    c.in_err-refresh.ensures.cause

pub returns-in-Some-clause-cause : goal.returns-in-Some-clause-cause
returns-in-Some-clause-cause g c =
    cause_on (state g.S.Store c.args.self.now.conn) (state g.S.Store c.refresh.new.self.conn) tt (Ok c.in-Some.meta) c.in_ok-refresh.ensures.cause
    (λ clean c' held. tt)

pub returns-in-None-clause-cause : goal.returns-in-None-clause-cause
returns-in-None-clause-cause g c =
    cause_after (state g.S.Store c.args.self.now.conn) (state g.S.Store c.refresh.new.self.conn) (state g.S.Store c.read_meta.new.conn) tt c.read_meta.result
    c.in_ok-refresh.ensures.cause c.refresh.ensures.quiet c.in_ok-refresh.ensures.up c.read_meta.ensures.found.quiet.clean c.read_meta.ensures.cause
