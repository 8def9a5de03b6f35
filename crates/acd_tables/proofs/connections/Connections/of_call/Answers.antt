use Rattle.std.proofs.Common.{◌∙◌, ap, sym}
use Rattle.std.specs.Prelude.{filter, ◌==◌}
use Rattle.acd_terms.specs.Lists.{first_two}
use Rattle.acd_terms.specs.declared.record.ConnectionRecord.{ConnectionRecord}
use Rattle.acd_tables.proofs.KeyLemmas.{none-there, no_keys}
use Rattle.acd_tables.proofs.connections.Connections.of_call.Goals as goal

pub returns-in-None : goal.returns-in-None
returns-in-None c =
    let none = none-there c.self.inside.records c.self.inside.keys c.self.invariant (no_keys c.self.inside.keys.keys c.in-None.ensures.variant.1) in
    ap (λ cs. first_two (filter (λ (x : ConnectionRecord). x.call == c.args.call) cs)) (sym none ∙ c.self.view_is)
