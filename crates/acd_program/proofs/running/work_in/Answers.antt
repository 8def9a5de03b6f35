use Rattle.std.proofs.Common.{refl}
use Rattle.acd_program.proofs.Commands.Ended.{work_makes}
use Rattle.acd_files.proofs.Ends.{match_from}
use Rattle.acd_program.proofs.Commands.Tasks.{worked_in}
use Rattle.acd_program.proofs.running.work_in.Goals as goal

pub returns-in_err-conn : goal.returns-in_err-conn
returns-in_err-conn g c = match_from c.from_residual.result _ _ _ c.from_residual.ensures.1 (refl, c.in_err-conn.ensures.left)

pub returns-in-Ok : goal.returns-in-Ok
returns-in-Ok g c = (
  c.in_ok-conn.conn,
  c.in_ok-conn.ensures.opened,
  worked_in c.in_ok-conn.is_new c.args.makes c.args.work c.in_ok-conn.conn (g.W.Write.contents c.args.writer.now) (g.W.Write.contents c.work_over.new.writer) c.in-Ok.status c.in_ok-conn.ensures.makes c.in-Ok.ensures,
)

pub returns-in-Err : goal.returns-in-Err
returns-in-Err g c = (
  c.in_ok-conn.conn,
  c.in_ok-conn.ensures.opened,
  work_makes c.in_ok-conn.is_new c.args.makes c.args.work c.in_ok-conn.conn (g.W.Write.contents c.args.writer.now) (g.W.Write.contents c.work_over.new.writer) c.in_ok-conn.ensures.makes c.in-Err.ensures,
)
