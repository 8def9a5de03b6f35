use Rattle.std.proofs.Common.{sym, ap, ◌∙◌}
use Rattle.acd_model.specs.Scans.{is_group}
use Rattle.acd_tables.proofs.Firsts.{lent-there, lent-members, eligible-among}
use Rattle.acd_tables.proofs.tables.Tables.ready_of.Goals as goal

pub returns-then-is_group-clause-planned : goal.returns-then-is_group-clause-planned
returns-then-is_group-clause-planned c =
    lent-there c.get.result c.self.inside.indexes.ready c.args.group c.get.ensures.value
    (c.self.invariant.readies c.args.group (ap (λ s. is_group s c.args.group) c.self.view_is ∙ sym c.is_group.ensures ∙ c.if-is_group.true))
    ∙ sym c.if-is_group.true ∙ c.is_group.ensures

pub returns-then-is_group-clause-members : goal.returns-then-is_group-clause-members
returns-then-is_group-clause-members c =
    rw (← c.self.view_is)
    (lent-members c.get.result c.self.inside.indexes.ready c.args.group _ c.get.ensures.value
    (λ p. (
      λ h. (eligible-among c.self.inside.records c.args.group p c.self.invariant.agents).0 (sym (c.self.invariant.able c.args.group p) ∙ h),
      λ a. c.self.invariant.able c.args.group p
          ∙ (eligible-among c.self.inside.records c.args.group p c.self.invariant.agents).1 a,
    )))
