use Rattle.std.proofs.Common.{ap, ◌∙◌}
use Rattle.acd_model.specs.Choice.{first_eligible}
use Rattle.acd_tables.proofs.Firsts.{eligible-first}
use Rattle.acd_tables.proofs.tables.Tables.first_eligible.Goals as goal

pub returns : goal.returns
returns c =
    eligible-first c.self.inside.records c.self.inside.indexes.ready c.args.group c.first_in.result c.self.invariant.agents (c.self.invariant.able c.args.group)
    c.first_in.ensures
    ∙ ap (λ s. first_eligible s c.args.group) c.self.view_is
