use Rattle.std.proofs.Common.{◌≡◌, subst, IfOk, ◌∙◌}
use Rattle.acd_tables.proofs.ScansByIndex.{picks-at}
use Rattle.acd_tables.proofs.tables.Tables.connections_at.Goals as goal

pub returns : goal.returns
returns c =
    rw (← c.self.view_is)
    (subst (λ l. IfOk c.connections_among.result (λ v. v.items ≡ l))
    (picks-at c.self.inside.records c.args.device c.self.invariant.connections c.lines_at.result
    (λ k e. c.lines_at.ensures.listed k (c.self.invariant.lines (c.args.device, k) ∙ e)) c.lines_at.ensures.sorted)
    (rw c.self.view_is c.connections_among.ensures))
