use Rattle.std.proofs.Common.{◌++◌, ◌∷◌, []}
use Rattle.std.specs.Prelude.{codes, decimal}
use Rattle.acd_io.proofs.Sends.{sent_after, sent_first}
use Rattle.acd_program.specs.Commands.AuditFindings.{again_line}
use Rattle.acd_program.proofs.printing.send_again_counted.Goals as goal

pub returns-in_err-send_again : goal.returns-in_err-send_again
returns-in_err-send_again g c =
    sent_first c.from_residual.result _ (g.W.Write.contents c.args.writer.now) (g.W.Write.contents c.send_again.new.writer) (again_line c.args.ending c.args.stamp)
    (codes "executed " ++ (decimal c.args.count ++ 10 ∷ [])) c.from_residual.ensures.1 c.in_err-send_again.ensures

pub returns : goal.returns
returns g c =
    sent_after c.send_number.result (g.W.Write.contents c.args.writer.now) (g.W.Write.contents c.send_again.new.writer) (g.W.Write.contents c.send_number.new.writer) (again_line c.args.ending c.args.stamp)
    (codes "executed " ++ (decimal c.args.count ++ 10 ∷ [])) c.in_ok-send_again.ensures c.send_number.ensures
