use Rattle.std.proofs.Common.{◌++◌, ◌∷◌, [], ◌∙◌, List, ℕ, subst}
use Rattle.std.specs.Prelude.{codes, decimal}
use Rattle.std.specs.Io.KnownBytes.{Appends}
use Rattle.acd_io.specs.SentBytes.{Breaks}
use Rattle.acd_io.proofs.Sends.{sent_after, sent_first}
use Rattle.acd_program.specs.Commands.AuditFindings.{sound_line}
use Rattle.acd_program.proofs.printing.send_counted.Goals as goal

pub returns-in_err-send : goal.returns-in_err-send
returns-in_err-send g c =
    let a : _ = g.W.Write.contents c.args.writer.now in
    let b : _ = g.W.Write.contents c.send.new.writer in
    sent_first c.from_residual.result _ a b (sound_line c.args.ending) (codes "executed " ++ (decimal c.args.count ++ 10 ∷ [])) c.from_residual.ensures.1
    (subst (λ (y : List ℕ). Breaks a b y) (c.as_bytes.ensures.value ∙ c.sound_line.ensures) c.in_err-send.ensures)

pub returns : goal.returns
returns g c =
    let a : _ = g.W.Write.contents c.args.writer.now in
    let b : _ = g.W.Write.contents c.send.new.writer in
    let d : _ = g.W.Write.contents c.send_number.new.writer in
    sent_after c.send_number.result a b d (sound_line c.args.ending) (codes "executed " ++ (decimal c.args.count ++ 10 ∷ []))
    (subst (λ (y : List ℕ). Appends a b y) (c.as_bytes.ensures.value ∙ c.sound_line.ensures) c.in_ok-send.ensures) c.send_number.ensures
