use Rattle.std.proofs.Common.{rules}
use Rattle.acd_sql_schema.proofs.Steps.{followed, halted}
use Rattle.acd_sql_schema.proofs.create.make_nine.Goals as goal

pub returns-in_err-make_plan : goal.returns-in_err-make_plan
returns-in_err-make_plan g c = halted c.in_err-make_plan.ensures (search rules)

pub returns-in_err-make_state : goal.returns-in_err-make_state
returns-in_err-make_state g c = halted (followed c.in_ok-make_plan.ensures c.in_err-make_state.ensures) (search rules)

pub returns : goal.returns
returns g c = followed (followed c.in_ok-make_plan.ensures c.in_ok-make_state.ensures) c.make_log.ensures
