use Rattle.std.proofs.Common.{◌++◌, ◌∷◌, [], List, ℕ, subst}
use Rattle.std.specs.Io.KnownBytes.{Appends}
use Rattle.acd_io.specs.SentBytes.{Breaks}
use Rattle.acd_io.proofs.Sends.{sent_after, sent_first}
use Rattle.acd_sessions.proofs.sending.send_text.Goals as goal

pub returns-in_err-send : goal.returns-in_err-send
returns-in_err-send g c =
    sent_first c.from_residual.result _ (g.W.Write.contents c.args.writer.now) (g.W.Write.contents c.send.new.writer) c.args.front.now (c.args.text.now ++ 10 ∷ []) c.from_residual.ensures.1 c.in_err-send.ensures

pub returns-in_err-send-2 : goal.returns-in_err-send-2
returns-in_err-send-2 g c =
    let a : _ = g.W.Write.contents c.args.writer.now in
    let b : _ = g.W.Write.contents c.send.new.writer in
    let d : _ = g.W.Write.contents c.send-2.new.writer in
    let result : _ = c.from_residual-in_err-send-2.result in
    sent_after result a b d c.args.front.now (c.args.text.now ++ 10 ∷ []) c.in_ok-send.ensures
    (sent_first result _ b d c.args.text.now (10 ∷ []) c.from_residual-in_err-send-2.ensures.1 (subst (λ (y : List ℕ). Breaks b d y) c.as_bytes.ensures.value c.in_err-send-2.ensures))

pub returns : goal.returns
returns g c =
    let a : _ = g.W.Write.contents c.args.writer.now in
    let b : _ = g.W.Write.contents c.send.new.writer in
    let d : _ = g.W.Write.contents c.send-2.new.writer in
    let e : _ = g.W.Write.contents c.send-3.new.writer in
    sent_after c.send-3.result a b e c.args.front.now (c.args.text.now ++ 10 ∷ []) c.in_ok-send.ensures
    (sent_after c.send-3.result b d e c.args.text.now (10 ∷ []) (subst (λ (y : List ℕ). Appends b d y) c.as_bytes.ensures.value c.in_ok-send-2.ensures) c.send-3.ensures)
