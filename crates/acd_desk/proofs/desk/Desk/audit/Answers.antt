use Rattle.acd_desk.proofs.Replays.AuditLaws.{finds_sound}
use Rattle.acd_desk.proofs.desk.Desk.audit.Goals as goal

pub returns-in-Ok-clause-sound : goal.returns-in-Ok-clause-sound
returns-in-Ok-clause-sound g c = finds_sound (g.B.Book.state c.args.self.now.book) (g.B.Book.state c.audited.new.book) c.in-Ok.audit c.in-Ok.ensures
