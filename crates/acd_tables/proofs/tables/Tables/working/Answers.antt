use Rattle.acd_tables.proofs.ScansByIndex.{after_none, picks-working}
use Rattle.acd_tables.proofs.tables.Tables.working.Goals as goal

pub loop-number-init : goal.loop-number-init
loop-number-init c =
    let given = c.into_iter-number-iterator.ensures.into_iter_gives in
    rw (
      given.0,
      ← c.self.view_is,
    ) (after_none _ _ _ c.new-working.ensures.items
    (picks-working c.self.inside.records c.self.inside.indexes.working c.self.invariant.agents c.self.invariant.working given.4))
