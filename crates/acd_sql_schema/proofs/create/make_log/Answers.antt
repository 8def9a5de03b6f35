use Rattle.std.proofs.Common.{rules}
use Rattle.acd_sql_schema.proofs.TableTexts.{nine_made, makes_events, makes_kept}
use Rattle.acd_sql_schema.proofs.Steps.{one, followed, halted, renamed}
use Rattle.acd_sql_schema.proofs.CreatesAccepted.{takes_events, takes_kept}
use Rattle.acd_sql_schema.proofs.create.make_log.Goals as goal

pub returns-in_err-make : goal.returns-in_err-make
returns-in_err-make g c = halted (one makes_events takes_events c.in_err-make.ensures) (search rules)

pub returns : goal.returns
returns g c = renamed nine_made (followed (one makes_events takes_events c.in_ok-make.ensures) (one makes_kept takes_kept c.make-2.ensures))
