use Rattle.std.proofs.Common.{Ok, sym, ap, ◌∙◌}
use Rattle.acd_sessions.specs.Faults.{command_result}
use Rattle.acd_sessions.proofs.session.unless_failed.Goals as goal

pub returns-then-has_failed-clause-ended : goal.returns-then-has_failed-clause-ended
returns-then-has_failed-clause-ended g c = ap (command_result (Ok tt)) (sym c.if-has_failed.true ∙ c.has_failed.ensures)

pub returns-clause-ended : goal.returns-clause-ended
returns-clause-ended g c = ap (command_result (Ok tt)) (sym c.if-has_failed.false ∙ c.has_failed.ensures)
