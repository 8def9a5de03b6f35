use Rattle.std.proofs.Common.{◌≡◌, None, Ok, ap, rules}
use Rattle.sqlite.specs.Held.{state}
use Rattle.acd_sqlbook.specs.Counters.{AreCounters}
use Rattle.acd_sqlbook.proofs.AfterProbe.{reads_on}
use Rattle.acd_sql_columns.specs.Relations.{meta_of}
use Rattle.acd_sql_statements.proofs.ReadCauses.{cause_on, cause_as}
use Rattle.acd_sqlbook.proofs.ready.Ready.limits.Goals as goal

pub returns-clause-read : goal.returns-clause-read
returns-clause-read g c =
    reads_on (state g.S.Store c.args.self.now.conn) (state g.S.Store c.meta.new.self.conn) c.in_ok-meta.meta (Ok c.in_ok-meta.meta.limits)
    (λ c' found. AreCounters None c' → found ≡ meta_of c'.rows) (λ c' found. found ≡ c'.rows.limits) c.in_ok-meta.ensures.read
    (λ c' is. ap (λ m. m.limits) (is tt))

pub returns-clause-cause : goal.returns-clause-cause
returns-clause-cause g c =
    cause_on (state g.S.Store c.args.self.now.conn) (state g.S.Store c.meta.new.self.conn) c.in_ok-meta.meta (Ok c.in_ok-meta.meta.limits)
    c.in_ok-meta.ensures.cause (λ clean c' held. tt)

pub returns-in_err-meta-clause-cause : goal.returns-in_err-meta-clause-cause
returns-in_err-meta-clause-cause g c =
    cause_as (state g.S.Store c.args.self.now.conn) (state g.S.Store c.meta.new.self.conn) c.in_err-meta.field-0.0 c.from_residual.result (search rules)
    c.in_err-meta.ensures.cause
