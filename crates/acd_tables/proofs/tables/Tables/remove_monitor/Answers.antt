use Rattle.acd_tables.proofs.IndexLemmas.{kept-no_monitor}
use Rattle.acd_tables.proofs.tables.Tables.remove_monitor.Goals as goal

pub invariant_of-self : goal.invariant_of-self
invariant_of-self c = rw c.remove_monitor.ensures (kept-no_monitor c.self.inside.records c.args.monitor c.self.inside.indexes c.self.invariant)
