use Rattle.acd_tables.proofs.IndexLemmas.{IsIndexed-new}
use Rattle.acd_tables.proofs.tables.Tables.new.Goals as goal

pub invariant_of-result : goal.invariant_of-result
invariant_of-result c = rw c.new.ensures (IsIndexed-new c.args.limits c.new-2.result c.new-2.ensures)
