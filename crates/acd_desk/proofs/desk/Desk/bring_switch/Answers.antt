use Rattle.std.proofs.Common.{rules}
use Rattle.acd_desk.specs.Desks.DeskState.{state_of}
use Rattle.acd_desk.proofs.Desks.ClockTicks.{still_brought, now_brought, none_brought}
use Rattle.acd_desk.proofs.desk.Desk.bring_switch.Goals as goal

pub returns-in-Loaded : goal.returns-in-Loaded
returns-in-Loaded g c = still_brought (g.B.Book.state c.args.self.now.book) c.args.self.now.working c.in-Loaded.field-0 c.in-Loaded.is c.in-Loaded.field-0.rules

pub returns-in_err-loaded : goal.returns-in_err-loaded
returns-in_err-loaded g c =
    none_brought (g.B.Book.state c.args.self.now.book) c.args.self.now.working (state_of g.B.Book c.switch_out.new.self) c.in_err-loaded.field-0.0 c.from_residual.result c.in_default.not-Loaded
    c.in_err-loaded.ensures.loaded (search rules)

pub returns : goal.returns
returns g c =
    now_brought (g.B.Book.state c.args.self.now.book) c.args.self.now.working (state_of g.B.Book c.switch_out.new.self) c.in_ok-loaded.loaded.switch.value c.in_default.not-Loaded
    c.in_ok-loaded.loaded.rules c.in_ok-loaded.ensures.loaded
