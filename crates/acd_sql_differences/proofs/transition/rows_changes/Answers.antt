use Rattle.std.proofs.Common.{◌++◌, ap, ◌∙◌}
use Rattle.acd_sql_differences.proofs.Transitions.{both_lead, both_exact}
use Rattle.acd_sql_differences.proofs.Wholeness.{keeps_plan}
use Rattle.acd_sql_differences.proofs.transition.rows_changes.Goals as goal

pub returns-clause-lead : goal.returns-clause-lead
returns-clause-lead c =
    both_lead c.args.held.now c.args.new.now c.in_ok-changes.changes.items c.in_ok-more.more.items c.extend.new.list.items
    (c.in_ok-extend.ensures ∙ ap (λ l. c.in_ok-changes.changes.items ++ l) c.deref.ensures.value) c.in_ok-changes.ensures.lead c.in_ok-more.ensures.lead

pub returns-clause-exact : goal.returns-clause-exact
returns-clause-exact c =
    both_exact c.args.held.now c.args.new.now c.in_ok-changes.changes.items c.in_ok-more.more.items c.extend.new.list.items
    (c.in_ok-extend.ensures ∙ ap (λ l. c.in_ok-changes.changes.items ++ l) c.deref.ensures.value) c.in_ok-changes.ensures.exact c.in_ok-more.ensures.exact

pub returns-clause-whole : goal.returns-clause-whole
returns-clause-whole c o n =
    keeps_plan c.args.held.now c.args.new.now c.extend.new.list.items
    (both_exact c.args.held.now c.args.new.now c.in_ok-changes.changes.items c.in_ok-more.more.items c.extend.new.list.items
    (c.in_ok-extend.ensures ∙ ap (λ l. c.in_ok-changes.changes.items ++ l) c.deref.ensures.value) c.in_ok-changes.ensures.exact c.in_ok-more.ensures.exact) o n
