use Rattle.std.proofs.Common.{sym, subst}
use Rattle.sqlite.specs.Held.{state}
use Rattle.acd_sqlbook.specs.RecordsAhead.{IsAhead}
use Rattle.acd_sqlbook.specs.declared.ahead.Ahead.{Ahead}
use Rattle.acd_sqlbook.proofs.RecordsReadAhead.{ahead_read, ascending, page_is, page_read}
use Rattle.acd_sqlbook.proofs.following.kept_followed.Goals.{then-ready+in_default, else-ready}
use Rattle.acd_sqlbook.proofs.following.kept_followed.Goals as goal

pub returns-in-Some-clause-recorded : goal.returns-in-Some-clause-recorded
returns-in-Some-clause-recorded g c = λ clean x held of. c.next.ensures.still x.kept (ascending (state g.S.Store c.args.ready.now.conn) x held) of

pub returns-in-Some-clause-read : goal.returns-in-Some-clause-read
returns-in-Some-clause-read g c =
    ahead_read (state g.S.Store c.args.ready.now.conn) c.in-Some.kept c.args.ahead.now c.args.stamp (c.args.ready.now.open_if_clean c.if-ready.true)
    c.in-Some.ensures.next

pub returns-in_err-page-clause-recorded : goal.returns-in_err-page-clause-recorded
returns-in_err-page-clause-recorded g c = λ clean x held of.
    elim c.if-ready.branch [
      | then-ready+in_default w ↦ subst (λ (a : Ahead). IsAhead a x.kept) (sym w.ahead-is)
          (w.next.ensures.still x.kept (ascending (state g.S.Store c.args.ready.now.conn) x held) of)
      | else-ready w ↦ subst (λ (a : Ahead). IsAhead a x.kept) (sym w.ahead-is) of
    ]

pub returns-clause-recorded : goal.returns-clause-recorded
returns-clause-recorded g c = λ clean x held of.
    c.next-2.ensures.still x.kept (ascending (state g.S.Store c.args.ready.now.conn) x held)
    (page_is (state g.S.Store c.args.ready.now.conn) (state g.S.Store c.records_after.new.self.conn) c.in_ok-page.page c.args.stamp c.of_page.result
    c.of_page.ensures.at c.of_page.ensures.turned c.in_ok-page.ensures.read clean x held)

pub returns-clause-read : goal.returns-clause-read
returns-clause-read g c =
    page_read (state g.S.Store c.args.ready.now.conn) (state g.S.Store c.records_after.new.self.conn) c.in_ok-page.page c.args.stamp c.of_page.result
    c.of_page.ensures.at c.of_page.ensures.turned c.in_ok-page.ensures.read c.args.ahead.now c.next-2.result
    c.next-2.ensures.next c.next-2.ensures.none
