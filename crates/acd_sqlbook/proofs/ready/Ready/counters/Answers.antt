use Rattle.std.proofs.Common.{◌≡◌, ℕ, Ok, Err, ap, subst, sym, rules}
use Rattle.sqlite.specs.Held.{state}
use Rattle.acd_sql_columns.specs.declared.meta.Meta.{Meta}
use Rattle.acd_sqlbook.proofs.AfterProbe.{reads_counters}
use Rattle.acd_sqlbook.specs.Counters.{StopsOn}
use Rattle.acd_sqlbook.specs.CommitStops.{HasReadCauseOr, IsUncounted}
use Rattle.acd_sqlbook.proofs.CommitCauses.{counts_not, counts_unfit, counts_done}
use Rattle.acd_sqlbook.proofs.ready.Ready.counters.Goals as goal

pub returns-clause-read : goal.returns-clause-read
returns-clause-read g c =
    reads_counters (state g.S.Store c.args.self.now.conn) (state g.S.Store c.meta.new.self.conn) c.args.held c.in_ok-meta.meta
    (Ok (c.in_ok-meta.meta.last_call, c.in_ok-next.next)) c.args.changes.now c.args.events c.args.kept.now
    c.in_ok-meta.ensures.read (ap (λ (next : Meta). (c.in_ok-meta.meta.last_call, next)) c.in_ok-next.ensures.is)

pub returns-in_err-meta-clause-cause : goal.returns-in_err-meta-clause-cause
returns-in_err-meta-clause-cause g c =
    counts_not (StopsOn c.args.held (IsUncounted c.args.changes.now c.args.events c.args.kept.now)) (state g.S.Store c.args.self.now.conn)
    (state g.S.Store c.meta.new.self.conn) c.in_err-meta.field-0.0 c.from_residual.result (search rules) c.in_err-meta.ensures.cause

pub returns-clause-cause : goal.returns-clause-cause
returns-clause-cause g c =
    counts_done (StopsOn c.args.held (IsUncounted c.args.changes.now c.args.events c.args.kept.now)) (state g.S.Store c.args.self.now.conn)
    (state g.S.Store c.meta.new.self.conn) c.in_ok-meta.meta (c.in_ok-meta.meta.last_call, c.in_ok-next.next) c.in_ok-meta.ensures.cause

pub returns-in_err-next-clause-cause : goal.returns-in_err-next-clause-cause
returns-in_err-next-clause-cause g c =
    let is : c.from_residual-in_err-next.result ≡ Err c.in_err-next.field-0.0 = search rules in
    subst
    (HasReadCauseOr {A = ℕ × Meta} (StopsOn c.args.held (IsUncounted c.args.changes.now c.args.events c.args.kept.now))
    (state g.S.Store c.args.self.now.conn) (state g.S.Store c.meta.new.self.conn))
    (sym is)
    (counts_unfit (state g.S.Store c.args.self.now.conn) (state g.S.Store c.meta.new.self.conn) c.args.held c.in_ok-meta.meta c.in_err-next.field-0.0
    c.args.changes.now c.args.events c.args.kept.now c.in_ok-meta.ensures.read c.in_err-next.ensures.unfit)
