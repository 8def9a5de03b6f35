use Rattle.acd_command.proofs.task.parse.Goals as goal

pub returns-clause-task : goal.returns-clause-task
returns-clause-task g c = c.chosen.ensures.task c.in_ok-commands.ensures.app

pub returns-clause-refused : goal.returns-clause-refused
returns-clause-refused g c = c.chosen.ensures.refused c.in_ok-commands.ensures.app
