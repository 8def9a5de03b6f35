use Rattle.std.proofs.Common.{None, refl, sym, ◌∙◌}
use Rattle.sqlite.specs.Held.{state}
use Rattle.acd_sqlbook.proofs.BookStates.{new_book}
use Rattle.acd_sqlbook.specs.Causes.{unfit, occupied}
use Rattle.acd_sqlbook.proofs.FailureCauses.{create_cause, create_unlimited}
use Rattle.acd_sqlbook.proofs.book.SqlBook.create.Goals as goal

pub returns-in-Ok-clause-made : goal.returns-in-Ok-clause-made
returns-in-Ok-clause-made g c clean =
    let store = c.set_up.new.conn.store in
    new_book (state g.S.Store c.set_up.new.conn) 0 c.args.limits (g.met.S.Store.settled store) (g.met.S.Store.stays store) (c.in-Ok.ensures.made clean)

pub returns-in-Err-clause-caused : goal.returns-in-Err-clause-caused
returns-in-Err-clause-caused g c clean store =
    let bare = state g.S.Store (record c.args.conn { step_limit = None }) in
    create_unlimited c.args.limits (state g.S.Store c.args.conn) (state g.S.Store c.set_up.new.conn)
    (create_cause c.args.limits bare (state g.S.Store c.set_up.new.conn) c.in-Err.error c.fault_of.result refl c.fault_of.ensures store
    ((rw c.set_step_limit.ensures at c.in-Err.ensures.failed) clean))

pub returns-then-not-limits_fit-clause-caused : goal.returns-then-not-limits_fit-clause-caused
returns-then-not-limits_fit-clause-caused g c clean store =
    unfit (λ fit. absurd (let apart = sym (c.limits_fit.ensures.1 fit) ∙ c.if-not-limits_fit.true in cc))

pub returns-then-not-has_no_tables-clause-caused : goal.returns-then-not-has_no_tables-clause-caused
returns-then-not-has_no_tables-clause-caused g c clean store =
    occupied (λ is. absurd (let apart = sym (c.has_no_tables.ensures.1 (c.schema.ensures.value ∙ is)) ∙ c.if-not-has_no_tables.true in cc))
