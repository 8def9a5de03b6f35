use Rattle.acd_desk.specs.Desks.DeskState.{state_of}
use Rattle.acd_sessions.proofs.Asking.{only_left}
use Rattle.acd_files.proofs.Ends.{err_made}
use Rattle.acd_program.proofs.with_archive.found_with_archive.Goals as goal

pub returns-in-Ok-clause-asked : goal.returns-in-Ok-clause-asked
returns-in-Ok-clause-asked g c = (c.in_ok-conn.conn, c.in_ok-conn.ensures.opened, c.in-Ok.ensures.asked)

pub returns-in-Err-clause-left : goal.returns-in-Err-clause-left
returns-in-Err-clause-left g c = (c.in_ok-conn.conn, c.in_ok-conn.ensures.opened, c.found_in.ensures.spared)

pub returns-in_err-conn-clause-left : goal.returns-in_err-conn-clause-left
returns-in_err-conn-clause-left g c = err_made c.from_residual.result _ _ c.from_residual.ensures.1 c.in_err-conn.ensures.left

pub returns-in_err-conn-clause-kept : goal.returns-in_err-conn-clause-kept
returns-in_err-conn-clause-kept g c = only_left (state_of g.B.Book c.args.desk.now).book
