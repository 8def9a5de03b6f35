use Rattle.acd_files.proofs.file.open_connection.Goals as goal

pub returns-in-Ok-clause-opened : goal.returns-in-Ok-clause-opened
returns-in-Ok-clause-opened g c = record { pair = c.in_ok-files.files; unused = c.in_ok-files.ensures.unused; opened = c.in-Ok.ensures.opened }

pub returns-in-Err-clause-left : goal.returns-in-Err-clause-left
returns-in-Err-clause-left g c = record { pair = c.in_ok-files.files; unused = c.in_ok-files.ensures.unused; rest = c.in-Err.unconnected.files; left = c.in-Err.ensures.left }
