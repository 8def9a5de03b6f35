use Rattle.std.proofs.Common.{sym, subst, ◌∙◌, MatchResult}
use Rattle.acd_desk.specs.declared.working.Working.{Working}
use Rattle.acd_desk.specs.Desks.DeskState.{state_of, holding, switch_of, is_failed}
use Rattle.acd_desk.specs.Reads.BookReads.{Reread}
use Rattle.acd_desk.specs.Reads.DeskReads.{ReadFailed}
use Rattle.acd_desk.proofs.desk.Desk.switch_out.Goals as goal

pub returns-in-Unloaded-clause-loaded : goal.returns-in-Unloaded-clause-loaded
returns-in-Unloaded-clause-loaded g c =
    subst (λ (w : Working). MatchResult c.load.result
    (λ taken. Reread (record { book = g.B.Book.state c.args.self.now.book; switch = switch_of w; failed = is_failed w }) (holding (state_of g.B.Book c.load.new.self) taken.switch.value))
    (λ fault. ReadFailed (record { book = g.B.Book.state c.args.self.now.book; switch = switch_of w; failed = is_failed w }) fault (state_of g.B.Book c.load.new.self)))
    (c.replace.ensures.after ∙ sym c.in-Unloaded.is ∙ c.replace.ensures.value) c.load.ensures.loaded
