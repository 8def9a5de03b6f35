use Rattle.acd_tables.proofs.ScansByIndex.{picks-ringing}
use Rattle.acd_tables.proofs.tables.Tables.ringing_keys.Goals as goal

pub returns : goal.returns
returns c =
    rw (c.iter.ensures.rest, ← c.self.view_is)
    (picks-ringing c.self.inside.records c.self.inside.indexes.ringing c.self.invariant.connections c.self.invariant.ringing c.iter.ensures.ordered)
