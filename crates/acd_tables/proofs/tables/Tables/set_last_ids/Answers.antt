use Rattle.acd_tables.proofs.IndexLemmas.{kept-last_ids}
use Rattle.acd_tables.proofs.tables.Tables.set_last_ids.Goals as goal

pub invariant_of-self : goal.invariant_of-self
invariant_of-self c = rw c.set_last_ids.ensures (kept-last_ids c.self.inside.records c.args.call c.args.monitor c.self.inside.indexes c.self.invariant)
