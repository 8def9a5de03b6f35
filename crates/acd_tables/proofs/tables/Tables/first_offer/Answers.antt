use Rattle.acd_tables.proofs.FirstOffers.{first-offer}
use Rattle.acd_tables.proofs.tables.Tables.first_offer.Goals as goal

pub loop-key-init : goal.loop-key-init
loop-key-init c =
    let given = c.into_iter-key-iterator.ensures.into_iter_gives in
    rw (given.0, ← c.self.view_is) (first-offer c.self.inside.records c.self.inside.indexes c.self.invariant given.4)
