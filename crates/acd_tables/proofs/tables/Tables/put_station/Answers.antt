use Rattle.acd_tables.proofs.Results.{either}
use Rattle.acd_tables.proofs.IndexLemmas.{kept-station}
use Rattle.acd_tables.proofs.tables.Tables.put_station.Goals as goal

pub invariant_of-self : goal.invariant_of-self
invariant_of-self c =
    either c.put_station.result c.put_station.ensures.ok c.put_station.ensures.err
    (λ e. rw e (kept-station c.self.inside.records c.args.item c.self.inside.indexes c.self.invariant))
    (λ e. rw e c.self.invariant)
