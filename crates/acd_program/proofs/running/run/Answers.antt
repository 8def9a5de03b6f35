use Rattle.std.proofs.Common.{inl, inr, refl, sym, ◌∙◌}
use Rattle.acd_program.proofs.Commands.Exits.{done_elsewhere, fault_undone}
use Rattle.acd_program.proofs.running.run.Goals as goal

pub returns-in-Ok-clause-exits : goal.returns-in-Ok-clause-exits
returns-in-Ok-clause-exits g c = inl (c.in-Ok.status, refl, c.in-Ok.ensures.result)

pub returns-in-Err-clause-exits : goal.returns-in-Err-clause-exits
returns-in-Err-clause-exits g c = inr (c.in-Err.fault, g.E.Write.contents c.execute.new.errors, c.fail_task-exit.ensures, c.in-Err.ensures.result)

pub returns-in-Err-clause-printed : goal.returns-in-Err-clause-printed
returns-in-Err-clause-printed g c = fault_undone c.in-Err.fault c.fail_task-exit.result _ c.fail_task-exit.ensures

pub returns-in-Ok-clause-elsewhere : goal.returns-in-Ok-clause-elsewhere
returns-in-Ok-clause-elsewhere g c is = done_elsewhere c.in-Ok.status _ is

pub returns-in-Err-clause-elsewhere : goal.returns-in-Err-clause-elsewhere
returns-in-Err-clause-elsewhere g c is = c.in-Err.ensures.elsewhere (sym c.fail_task-exit.ensures ∙ is)
