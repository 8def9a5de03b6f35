use Rattle.std.proofs.Common.{rules}
use Rattle.acd_sql_schema.proofs.TableTexts.{makes_meta, makes_groups, makes_stations, makes_agents}
use Rattle.acd_sql_schema.proofs.Steps.{one, followed, halted}
use Rattle.acd_sql_schema.proofs.CreatesAccepted.{takes_meta, takes_groups, takes_stations, takes_agents}
use Rattle.acd_sql_schema.proofs.create.make_plan.Goals as goal

pub returns-in_err-make : goal.returns-in_err-make
returns-in_err-make g c = halted (one makes_meta takes_meta c.in_err-make.ensures) (search rules)

pub returns-in_err-make-2 : goal.returns-in_err-make-2
returns-in_err-make-2 g c =
    halted (followed (one makes_meta takes_meta c.in_ok-make.ensures) (one makes_groups takes_groups c.in_err-make-2.ensures)) (search rules)

pub returns-in_err-make-3 : goal.returns-in_err-make-3
returns-in_err-make-3 g c =
    halted
    (followed (followed (one makes_meta takes_meta c.in_ok-make.ensures) (one makes_groups takes_groups c.in_ok-make-2.ensures))
    (one makes_stations takes_stations c.in_err-make-3.ensures))
    (search rules)

pub returns : goal.returns
returns g c =
    followed
    (followed (followed (one makes_meta takes_meta c.in_ok-make.ensures) (one makes_groups takes_groups c.in_ok-make-2.ensures))
    (one makes_stations takes_stations c.in_ok-make-3.ensures))
    (one makes_agents takes_agents c.make-4.ensures)
