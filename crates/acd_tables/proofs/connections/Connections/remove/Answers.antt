use Rattle.std.proofs.Common.{sym, subst}
use Rattle.acd_tables.specs.Near.{HasKeys}
use Rattle.acd_tables.proofs.KeyLemmas.{keys-remove}
use Rattle.acd_tables.proofs.connections.Connections.remove.Goals as goal

pub invariant_of-self : goal.invariant_of-self
invariant_of-self c =
    subst (λ cs. HasKeys cs c.remove_if.new.index) (sym c.remove.ensures)
    (keys-remove c.self.inside.records c.self.inside.keys c.remove_if.new.index c.self.invariant c.args.call c.args.device c.remove_if.ensures)
