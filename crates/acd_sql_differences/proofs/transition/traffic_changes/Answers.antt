use Rattle.std.proofs.Common.{sym, subst}
use Rattle.acd_lemmas.proofs.Lists.{ascending-filter}
use Rattle.acd_terms.specs.Lists.{IsAscending}
use Rattle.acd_model.specs.Rules.Plan.{connection_order}
use Rattle.acd_sql_differences.specs.ChangeOrder.{stays}
use Rattle.acd_sql_differences.proofs.Transitions.{traffic_leads, traffic_exact}
use Rattle.acd_sql_differences.proofs.transition.traffic_changes.Goals as goal

pub returns-clause-lead : goal.returns-clause-lead
returns-clause-lead c =
    traffic_leads c.args.held.now c.args.new.now c.in_ok-connections.connections.items
    c.new-changes.result.items c.add_changes.new.changes.items c.add_changes-2.new.changes.items c.add_changes-3.new.changes.items
    c.add_changes-4.new.changes.items c.new-changes.ensures.items
    (rw (c.as_slice-3.ensures, c.deref.ensures.value) at c.in_ok-add_changes.ensures)
    (rw (c.as_slice-4.ensures, c.as_slice-5.ensures) at c.in_ok-add_changes-2.ensures)
    (rw (c.deref-2.ensures.value, c.as_slice-6.ensures) at c.in_ok-add_changes-3.ensures)
    (rw (c.as_slice-7.ensures, c.as_slice-8.ensures) at c.in_ok-add_changes-4.ensures)
    (λ up. subst (IsAscending connection_order) (sym (rw (c.as_slice.ensures, c.as_slice-2.ensures) at c.in_ok-connections.ensures))
    (ascending-filter connection_order (stays c.args.new.now.connections) c.args.held.now.connections up))

pub returns-clause-exact : goal.returns-clause-exact
returns-clause-exact c =
    traffic_exact c.args.held.now c.args.new.now c.in_ok-connections.connections.items
    c.new-changes.result.items c.add_changes.new.changes.items c.add_changes-2.new.changes.items c.add_changes-3.new.changes.items
    c.add_changes-4.new.changes.items
    (rw (c.as_slice.ensures, c.as_slice-2.ensures) at c.in_ok-connections.ensures) c.new-changes.ensures.items
    (rw (c.as_slice-3.ensures, c.deref.ensures.value) at c.in_ok-add_changes.ensures)
    (rw (c.as_slice-4.ensures, c.as_slice-5.ensures) at c.in_ok-add_changes-2.ensures)
    (rw (c.deref-2.ensures.value, c.as_slice-6.ensures) at c.in_ok-add_changes-3.ensures)
    (rw (c.as_slice-7.ensures, c.as_slice-8.ensures) at c.in_ok-add_changes-4.ensures)
