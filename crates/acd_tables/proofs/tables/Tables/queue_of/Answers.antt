use Rattle.std.proofs.Common.{sym, ap, ◌∙◌}
use Rattle.acd_model.specs.Scans.{is_group}
use Rattle.acd_tables.proofs.Firsts.{lent-there, lent-members, waiting-among}
use Rattle.acd_tables.proofs.tables.Tables.queue_of.Goals as goal

pub returns-then-is_group-clause-planned : goal.returns-then-is_group-clause-planned
returns-then-is_group-clause-planned c =
    lent-there c.get.result c.self.inside.indexes.queues c.args.group c.get.ensures.value
    (c.self.invariant.queues c.args.group (ap (λ s. is_group s c.args.group) c.self.view_is ∙ sym c.is_group.ensures ∙ c.if-is_group.true))
    ∙ sym c.if-is_group.true ∙ c.is_group.ensures

pub returns-then-is_group-clause-members : goal.returns-then-is_group-clause-members
returns-then-is_group-clause-members c =
    rw (← c.self.view_is)
    (lent-members c.get.result c.self.inside.indexes.queues c.args.group _ c.get.ensures.value
    (λ p. (
      λ h. (waiting-among c.self.inside.records c.args.group p c.self.invariant.connections).0 (sym (c.self.invariant.waiting c.args.group p) ∙ h),
      λ a. c.self.invariant.waiting c.args.group p
          ∙ (waiting-among c.self.inside.records c.args.group p c.self.invariant.connections).1 a,
    )))
