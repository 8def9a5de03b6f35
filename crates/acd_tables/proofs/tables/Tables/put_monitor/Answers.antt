use Rattle.acd_tables.proofs.Results.{either}
use Rattle.acd_tables.proofs.IndexLemmas.{kept-monitor}
use Rattle.acd_tables.proofs.tables.Tables.put_monitor.Goals as goal

pub invariant_of-self : goal.invariant_of-self
invariant_of-self c =
    either c.put_monitor.result c.put_monitor.ensures.ok c.put_monitor.ensures.err
    (λ e. rw e (kept-monitor c.self.inside.records c.args.item c.self.inside.indexes c.self.invariant))
    (λ e. rw e c.self.invariant)
