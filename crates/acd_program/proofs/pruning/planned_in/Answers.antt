use Rattle.std.proofs.lemmas.Result.{IfOk-weaker}
use Rattle.acd_desk.specs.Audits.Pairs.{book_call}
use Rattle.acd_program.proofs.Archives.Prunes.{were_in}
use Rattle.acd_program.proofs.pruning.planned_in.Goals as goal

pub returns-clause-asked : goal.returns-clause-asked
returns-clause-asked g c =
    let r = c.planned_over-planned.result.0 in
    IfOk-weaker c.found_and_closed.result _ _
    (λ p both. were_in c.args.ending (book_call g.B.Book.state c.args.book r.1) p r.0 c.close_connection.result c.args.conn c.planned_over-planned.result.1 c.planned_over-planned.ensures.asked
    c.planned_over-planned.ensures.spared c.close_connection.ensures.laid both)
    c.found_and_closed.ensures

pub returns-clause-spared : goal.returns-clause-spared
returns-clause-spared g c = record { last = c.planned_over-planned.result.1; shut = c.close_connection.ensures.shut; kept = c.planned_over-planned.ensures.spared }
