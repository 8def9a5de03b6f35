use Rattle.std.proofs.Common.{ℕ, codes, sym, subst}
use Rattle.std.specs.Io.KnownBytes.{Appends}
use Rattle.acd_sessions.specs.Output.{number_line}
use Rattle.acd_sessions.specs.Serving.{listening_line}
use Rattle.acd_command.specs.declared.asked.Address.{Address}
use Rattle.acd_sessions.proofs.serving.say.Goals as goal

pub returns-in_ok-send_number-in-Port : goal.returns-in_ok-send_number-in-Port
returns-in_ok-send_number-in-Port g c =
    let a : _ = g.W.Write.contents c.args.writer.now in
    let b : _ = g.W.Write.contents c.send_number.new.writer in
    subst (λ (x : Address). Appends a b (listening_line x)) (sym c.in-Port.is)
    (subst (λ (n : ℕ). Appends a b (number_line (codes "listening on 127.0.0.1:") n)) c.from.ensures c.in_ok-send_number-in-Port.ensures)

pub returns-in_ok-send_text-in-Socket : goal.returns-in_ok-send_text-in-Socket
returns-in_ok-send_text-in-Socket g c =
    let a : _ = g.W.Write.contents c.args.writer.now in
    let b : _ = g.W.Write.contents c.send_text.new.writer in
    subst (λ (x : Address). Appends a b (listening_line x)) (sym c.in-Socket.is) c.in_ok-send_text-in-Socket.ensures
