use Rattle.acd_tables.proofs.IndexLemmas.{kept-last}
use Rattle.acd_tables.proofs.tables.Tables.set_last.Goals as goal

pub invariant_of-self : goal.invariant_of-self
invariant_of-self c = rw c.set_last.ensures (kept-last c.self.inside.records c.args.stamp c.args.moment c.args.event c.self.inside.indexes c.self.invariant)
