use Rattle.acd_files.proofs.Ends.{err_made}
use Rattle.acd_program.proofs.export.add_archive.Goals as goal

pub returns-in-Ok-clause-added : goal.returns-in-Ok-clause-added
returns-in-Ok-clause-added g c = (c.in_ok-conn.conn, c.in_ok-conn.ensures.opened, c.in-Ok.ensures.added)

pub returns-in-Err-clause-left : goal.returns-in-Err-clause-left
returns-in-Err-clause-left g c = (c.in_ok-conn.conn, c.in_ok-conn.ensures.opened, c.add_files.ensures.spared)

pub returns-in_err-conn-clause-left : goal.returns-in_err-conn-clause-left
returns-in_err-conn-clause-left g c = err_made c.from_residual.result _ _ c.from_residual.ensures.1 c.in_err-conn.ensures.left
