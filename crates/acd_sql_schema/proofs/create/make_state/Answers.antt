use Rattle.std.proofs.Common.{rules}
use Rattle.acd_sql_schema.proofs.TableTexts.{makes_calls, makes_connections, makes_monitors}
use Rattle.acd_sql_schema.proofs.Steps.{one, followed, halted}
use Rattle.acd_sql_schema.proofs.CreatesAccepted.{takes_calls, takes_connections, takes_monitors}
use Rattle.acd_sql_schema.proofs.create.make_state.Goals as goal

pub returns-in_err-make : goal.returns-in_err-make
returns-in_err-make g c = halted (one makes_calls takes_calls c.in_err-make.ensures) (search rules)

pub returns-in_err-make-2 : goal.returns-in_err-make-2
returns-in_err-make-2 g c =
    halted (followed (one makes_calls takes_calls c.in_ok-make.ensures) (one makes_connections takes_connections c.in_err-make-2.ensures)) (search rules)

pub returns : goal.returns
returns g c =
    followed (followed (one makes_calls takes_calls c.in_ok-make.ensures) (one makes_connections takes_connections c.in_ok-make-2.ensures))
    (one makes_monitors takes_monitors c.make-3.ensures)
