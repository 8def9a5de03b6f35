use Rattle.std.proofs.Common.{ap, ◌∙◌}
use Rattle.acd_model.specs.Choice.{first_waiting}
use Rattle.acd_tables.proofs.Firsts.{waiting-first}
use Rattle.acd_tables.proofs.tables.Tables.first_waiting.Goals as goal

pub returns : goal.returns
returns c =
    waiting-first c.self.inside.records c.self.inside.indexes.queues c.args.group c.first_in.result c.self.invariant.connections
    (c.self.invariant.waiting c.args.group) c.first_in.ensures
    ∙ ap (λ s. first_waiting s c.args.group) c.self.view_is
