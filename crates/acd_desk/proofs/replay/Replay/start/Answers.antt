use Rattle.std.proofs.Common.{sym, ◌∙◌}
use Rattle.acd_desk.proofs.Replays.AuditSteps.{begins_fitting, begins_empty}
use Rattle.acd_desk.proofs.replay.Replay.start.Goals as goal

pub returns-in_ok-new-clause-read : goal.returns-in_ok-new-clause-read
returns-in_ok-new-clause-read g c =
    begins_fitting (g.B.Book.state c.args.book.now) (g.B.Book.state c.limits.new.self) c.in_ok-limits.limits c.in_ok-new.field-0 c.in_ok-limits.ensures (sym c.fits.ensures ∙ c.if-fits.true) c.in_ok-new.ensures.rows c.in_ok-new.ensures.page

pub returns-in_ok-new-clause-empty : goal.returns-in_ok-new-clause-empty
returns-in_ok-new-clause-empty g c = begins_empty c.in_ok-limits.limits c.in_ok-new.field-0.loaded.switch.value (sym c.fits.ensures ∙ c.if-fits.true) c.in_ok-new.ensures.rows
