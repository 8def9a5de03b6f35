use Rattle.std.proofs.Common.{sym, subst, ap}
use Rattle.acd_desk.specs.declared.working.Working.{Working}
use Rattle.acd_desk.specs.Desks.Faults.{fault_of, left_by}
use Rattle.acd_desk.specs.Desks.DeskState.{state_of, holding, switch_of, is_failed}
use Rattle.acd_desk.specs.Reads.BookReads.{Reread}
use Rattle.acd_desk.specs.Reads.DeskReads.{ReadFailed}
use Rattle.acd_desk.proofs.Desks.Calls.{loaded_rows}
use Rattle.acd_desk.proofs.Pages.ReadsDone.{leaves_read_failed, unread_by_book, unread_by_rows}
use Rattle.acd_desk.proofs.desk.Desk.load.Goals as goal

pub returns-in-Err-clause-loaded : goal.returns-in-Err-clause-loaded
returns-in-Err-clause-loaded g c =
    leaves_read_failed (state_of g.B.Book) (state_of g.B.Book c.args.self.now) _ _ _ _ c.failed.ensures.fault c.failed.ensures.left
    (unread_by_book (g.B.Book.state c.args.self.now.book) (g.B.Book.state c.rows.new.self) c.args.self.now.working c.in-Err.fault _ _ c.in-Err.ensures (ap is_failed c.requires))

pub returns-in-Ok-loaded-clause-loaded : goal.returns-in-Ok-loaded-clause-loaded
returns-in-Ok-loaded-clause-loaded g c =
    subst (λ (w : Working). Reread (record { book = g.B.Book.state c.args.self.now.book; switch = switch_of w; failed = is_failed w }) (holding (record { book = g.B.Book.state c.rows.new.self; switch = switch_of w; failed = is_failed w }) c.in-Ok-loaded.loaded.switch.value))
    (sym c.requires)
    (loaded_rows (g.B.Book.state c.args.self.now.book) (g.B.Book.state c.rows.new.self) c.in-Ok.rows c.in-Ok-loaded.loaded.switch.value c.in-Ok.ensures c.in-Ok-loaded.ensures.ok)

pub returns-clause-loaded : goal.returns-clause-loaded
returns-clause-loaded g c =
    leaves_read_failed (state_of g.B.Book) (state_of g.B.Book c.args.self.now) _ _ _ _ c.failed-in-Err-loaded.ensures.fault c.failed-in-Err-loaded.ensures.left
    (subst (λ (w : Working). ReadFailed (record { book = g.B.Book.state c.args.self.now.book; switch = switch_of w; failed = is_failed w }) (fault_of c.in-Err-loaded.fault)
    (record { book = g.B.Book.state c.rows.new.self; switch = switch_of (left_by c.in-Err-loaded.fault w); failed = is_failed (left_by c.in-Err-loaded.fault w) }))
    (sym c.requires)
    (unread_by_rows (g.B.Book.state c.args.self.now.book) (g.B.Book.state c.rows.new.self) c.in-Ok.rows c.in-Err-loaded.fault _ c.in-Ok.ensures c.in-Err-loaded.ensures.err))
