use Rattle.std.proofs.Common.{ℕ, List, ◌++◌, subst}
use Rattle.acd_io.specs.SentBytes.{WasSent}
use Rattle.acd_io.proofs.Sends.{sent_after, sent_first}
use Rattle.acd_http.proofs.exchanging.send_both.Goals as goal

pub returns-in_err-send : goal.returns-in_err-send
returns-in_err-send g c =
    let old = g.W.Write.contents c.args.writer.now in
    let new = g.W.Write.contents c.send-2.new.writer in
    subst (λ (head : List ℕ). WasSent c.from_residual.result old new (head ++ c.args.body.now)) c.as_slice-2.ensures (sent_first c.from_residual.result _ old new c.as_slice-2.result.now c.args.body.now c.from_residual.ensures.1 c.in_err-send.ensures)

pub returns : goal.returns
returns g c =
    let old = g.W.Write.contents c.args.writer.now in
    let between = g.W.Write.contents c.send-2.new.writer in
    let new = g.W.Write.contents c.send-3.new.writer in
    subst (λ (head : List ℕ). WasSent c.send-3.result old new (head ++ c.args.body.now)) c.as_slice-2.ensures (sent_after c.send-3.result old between new c.as_slice-2.result.now c.args.body.now c.in_ok-send.ensures c.send-3.ensures)
