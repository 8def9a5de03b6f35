use Rattle.std.proofs.Common.{sym, ◌∙◌}
use Rattle.acd_sql_statements.proofs.RefusedGroups.{not_made, not_same}
use Rattle.acd_sql_statements.proofs.JoinedPlan.{same_numbers}
use Rattle.acd_sql_statements.proofs.plan.ascending.Goals as goal

pub returns-then-eq-clause-groups : goal.returns-then-eq-clause-groups
returns-then-eq-clause-groups c = sym c.as_slice-2.ensures.value ∙ same_numbers _ _ (sym c.eq.ensures ∙ c.if-eq.true) ∙ c.as_slice-3.ensures.value

pub returns-in_err-groups-clause-other : goal.returns-in_err-groups-clause-other
returns-in_err-groups-clause-other c none =
    not_made c.args.list.now c.as_slice.result.now c.in_order.result c.in_err-groups.was c.in_order.ensures c.as_slice.ensures.value

pub returns-else-eq-clause-other : goal.returns-else-eq-clause-other
returns-else-eq-clause-other c none =
    not_same c.args.list.now c.as_slice.result.now c.in_ok-groups.groups c.as_slice-2.result.now c.as_slice-3.result.now c.in_order.result c.eq.result
    c.in_ok-groups.was c.in_order.ensures c.as_slice.ensures.value
    c.eq.ensures c.if-eq.false c.as_slice-2.ensures.value c.as_slice-3.ensures.value
