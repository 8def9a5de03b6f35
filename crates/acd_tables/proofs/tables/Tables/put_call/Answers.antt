use Rattle.acd_tables.proofs.Results.{either}
use Rattle.acd_tables.proofs.IndexLemmas.{kept-call}
use Rattle.acd_tables.proofs.tables.Tables.put_call.Goals as goal

pub invariant_of-self : goal.invariant_of-self
invariant_of-self c =
    either c.put_call.result c.put_call.ensures.ok c.put_call.ensures.err
    (λ e. rw e (kept-call c.self.inside.records c.args.item c.self.inside.indexes c.self.invariant))
    (λ e. rw e c.self.invariant)
