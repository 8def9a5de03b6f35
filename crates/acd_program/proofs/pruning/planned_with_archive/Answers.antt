use Rattle.acd_sessions.proofs.Asking.{only_left}
use Rattle.acd_files.proofs.Ends.{if_is_ok}
use Rattle.acd_program.proofs.pruning.planned_with_archive.Goals as goal

pub returns-in-Err-clause-kept : goal.returns-in-Err-clause-kept
returns-in-Err-clause-kept g c = only_left (g.B.Book.state c.args.book)

pub returns-in-Ok-decided-clause-asked : goal.returns-in-Ok-decided-clause-asked
returns-in-Ok-decided-clause-asked g c = (
  c.in-Ok.conn,
  c.in-Ok.ensures.opened,
  if_is_ok c.planned_in-decided.result.0 c.in-Ok-decided.pruning _ c.in-Ok-decided.is c.planned_in-decided.ensures.asked,
)

pub returns-in-Err-decided-clause-left : goal.returns-in-Err-decided-clause-left
returns-in-Err-decided-clause-left g c = (c.in-Ok.conn, c.in-Ok.ensures.opened, c.planned_in-decided.ensures.spared)
