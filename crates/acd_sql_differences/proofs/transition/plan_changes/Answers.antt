use Rattle.std.proofs.Common.{map, ap, ◌∙◌}
use Rattle.acd_terms.specs.declared.record.AgentRecord.{AgentRecord}
use Rattle.acd_sql_differences.proofs.Transitions.{plan_leads, plan_exact, ascending_same, unseated_numbers}
use Rattle.acd_sql_differences.proofs.transition.plan_changes.Goals as goal

pub returns-clause-lead : goal.returns-clause-lead
returns-clause-lead c =
    plan_leads c.args.held.now c.args.new.now c.in_ok-agents.agents.items
    c.new-changes.result.items c.add_changes.new.changes.items c.add_changes-2.new.changes.items c.add_changes-3.new.changes.items
    c.add_changes-4.new.changes.items c.new-changes.ensures.items
    (rw (c.as_slice-3.ensures, c.as_slice-4.ensures) at c.in_ok-add_changes.ensures)
    (rw (c.as_slice-5.ensures, c.as_slice-6.ensures) at c.in_ok-add_changes-2.ensures)
    (rw (c.as_slice-7.ensures, c.deref.ensures.value) at c.in_ok-add_changes-3.ensures)
    (rw (c.deref-2.ensures.value, c.as_slice-8.ensures) at c.in_ok-add_changes-4.ensures)
    (ascending_same c.in_ok-agents.agents.items c.args.held.now.agents
    (ap (map (λ (a : AgentRecord). a.agent)) (rw (c.as_slice.ensures, c.as_slice-2.ensures) at c.in_ok-agents.ensures)
    ∙ unseated_numbers c.args.new.now.agents c.args.held.now.agents))

pub returns-clause-exact : goal.returns-clause-exact
returns-clause-exact c =
    plan_exact c.args.held.now c.args.new.now c.in_ok-agents.agents.items
    c.new-changes.result.items c.add_changes.new.changes.items c.add_changes-2.new.changes.items c.add_changes-3.new.changes.items
    c.add_changes-4.new.changes.items
    (rw (c.as_slice.ensures, c.as_slice-2.ensures) at c.in_ok-agents.ensures) c.new-changes.ensures.items
    (rw (c.as_slice-3.ensures, c.as_slice-4.ensures) at c.in_ok-add_changes.ensures)
    (rw (c.as_slice-5.ensures, c.as_slice-6.ensures) at c.in_ok-add_changes-2.ensures)
    (rw (c.as_slice-7.ensures, c.deref.ensures.value) at c.in_ok-add_changes-3.ensures)
    (rw (c.deref-2.ensures.value, c.as_slice-8.ensures) at c.in_ok-add_changes-4.ensures)
