use Rattle.std.proofs.Common.{◌≡◌, ◌<◌, sym, subst, IfOk, length}
use Rattle.std.proofs.lemmas.Result.{IfOk-weaker, on_ok_weaker}
use Rattle.acd_terms.specs.declared.rows.Rows.{Rows}
use Rattle.acd_model.specs.Rules.First.{BreaksNoRule}
use Rattle.acd_laws.specs.RefusalLaws.{ChangesNothing}
use Rattle.acd_laws.proofs.Rules.RulesAll.{step_keeps_rules}
use Rattle.acd_switch.proofs.RefusedSteps.{where_refused}
use Rattle.acd_model.specs.Step.{executed_moment, next_stamp}
use Rattle.acd_model.specs.Changes.{rows_made}
use Rattle.acd_switch.proofs.ChangesOfRequests.{made}
use Rattle.acd_switch.proofs.switch.Switch.step_with_changes.Goals as goal

pub returns-clause-kept : goal.returns-clause-kept
returns-clause-kept c =
    let rules : BreaksNoRule c.self.inside.tables = subst BreaksNoRule (sym c.self.view_is) c.requires.rules in
    let room : c.self.inside.tables.last_stamp < c.self.inside.tables.limits.requests =
    subst (λ (s : Rows). s.last_stamp < s.limits.requests) (sym c.self.view_is) c.requires.room in
    on_ok_weaker c.execute.result (λ e. subst BreaksNoRule (sym e) (step_keeps_rules c.self.inside.tables c.args.moment c.args.command.now rules room))
    c.execute.ensures.rows

pub returns-clause-refused : goal.returns-clause-refused
returns-clause-refused c =
    let rules : BreaksNoRule c.self.inside.tables = subst BreaksNoRule (sym c.self.view_is) c.requires.rules in
    IfOk-weaker c.execute.result _ _
    (λ r e refused. subst (λ (s : Rows). ChangesNothing s c.args.moment c.args.command.now) c.self.view_is
    (where_refused c.self.inside.tables c.args.moment c.args.command.now r.outcome rules e refused))
    c.execute.ensures.outcome

pub returns-clause-made : goal.returns-clause-made
returns-clause-made c =
    let rules : BreaksNoRule c.self.inside.tables = subst BreaksNoRule (sym c.self.view_is) c.requires.rules in
    subst
    (λ (s : Rows). IfOk c.execute.result
    (λ r. rows_made s r.changes.items (next_stamp s) (executed_moment s c.args.moment) (length r.events.items) ≡ c.execute.new.tables))
    c.self.view_is
    (made c.execute.result c.self.inside.tables c.execute.new.tables c.args.moment c.args.command.now rules c.execute.ensures.changes c.execute.ensures.events
    c.execute.ensures.rows)
