use Rattle.std.proofs.Common.{Some, None}
use Rattle.acd_desk.proofs.Replays.AuditSteps.{all_not, all_whole, next_found}
use Rattle.acd_desk.proofs.replay.is_all.Goals as goal

pub returns-in_default : goal.returns-in_default
returns-in_default g c =
    all_whole (g.B.Book.state c.args.book.now) (g.B.Book.state c.kept_after.new.self) (g.B.Book.state c.is_whole.new.book) c.args.switch.now c.is_whole.result
    (next_found _ _ c.last_stamp.result _ c.in_ok-kept_after.field-0 None c.last_stamp.ensures c.in_default.is c.in_ok-kept_after.ensures)
    c.is_whole.ensures

pub returns : goal.returns
returns g c =
    all_not (g.B.Book.state c.args.book.now) (g.B.Book.state c.kept_after.new.self) c.args.switch.now c.in-Some.field-0
    (next_found _ _ c.last_stamp.result _ c.in_ok-kept_after.field-0 (Some c.in-Some.field-0) c.last_stamp.ensures c.in-Some.is c.in_ok-kept_after.ensures)
