use Rattle.acd_io.proofs.Sends.{breaks_front, passes_sent, breaks_sent, stopped, so_of}
use Rattle.acd_lines.proofs.outbox.Outbox.push.Goals as goal

pub returns-in_err-flush : goal.returns-in_err-flush
returns-in_err-flush g c = stopped c.from_residual.result _ _ _ c.from_residual.ensures.1 (breaks_front _ _ c.args.self.now.waiting.items c.args.text.now c.in_err-flush.ensures)

pub returns-then-text-capacity-2 : goal.returns-then-text-capacity-2
returns-then-text-capacity-2 g c =
    so_of c.send.result _ _ _ _
    (λ h. passes_sent _ _ _ c.args.self.now.waiting.items _ c.args.text.now c.in_ok-flush.ensures.1 h c.in_ok-flush.ensures.0)
    (λ h. breaks_sent _ _ _ c.args.self.now.waiting.items c.args.text.now c.in_ok-flush.ensures.1 h)
    c.send.ensures
