use Rattle.acd_tables.proofs.IndexLemmas.{kept-no_call}
use Rattle.acd_tables.proofs.tables.Tables.remove_call.Goals as goal

pub invariant_of-self : goal.invariant_of-self
invariant_of-self c = rw c.remove_call.ensures (kept-no_call c.self.inside.records c.args.call c.self.inside.indexes c.self.invariant)
