use Rattle.acd_tables.proofs.ScansByIndex.{picks-working}
use Rattle.acd_tables.proofs.tables.Tables.working_keys.Goals as goal

pub returns : goal.returns
returns c =
    rw (c.iter.ensures.rest, ← c.self.view_is)
    (picks-working c.self.inside.records c.self.inside.indexes.working c.self.invariant.agents c.self.invariant.working c.iter.ensures.ordered)
