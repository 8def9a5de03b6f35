use Rattle.acd_tables.proofs.ScansByIndex.{after_none, picks-ringing}
use Rattle.acd_tables.proofs.tables.Tables.ringing.Goals as goal

pub loop-key-init : goal.loop-key-init
loop-key-init c =
    let given = c.into_iter-key-iterator.ensures.into_iter_gives in
    rw (
      given.0,
      ← c.self.view_is,
    ) (after_none _ _ _ c.new-ringing.ensures.items
    (picks-ringing c.self.inside.records c.self.inside.indexes.ringing c.self.invariant.connections c.self.invariant.ringing given.4))
