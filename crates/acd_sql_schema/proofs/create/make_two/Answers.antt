use Rattle.std.proofs.Common.{rules}
use Rattle.acd_sql_schema.proofs.TableTexts.{two_made, makes_agent_groups, makes_group_priority}
use Rattle.acd_sql_schema.proofs.Steps.{one, followed, halted, renamed}
use Rattle.acd_sql_schema.proofs.CreatesAccepted.{takes_agent_groups, takes_group_priority}
use Rattle.acd_sql_schema.proofs.create.make_two.Goals as goal

pub returns-in_err-make : goal.returns-in_err-make
returns-in_err-make g c rows = halted (one {rows = rows} makes_agent_groups takes_agent_groups c.in_err-make.ensures) (search rules)

pub returns : goal.returns
returns g c rows =
    renamed two_made (followed (one {rows = rows} makes_agent_groups takes_agent_groups c.in_ok-make.ensures)
    (one makes_group_priority takes_group_priority c.make-2.ensures))
