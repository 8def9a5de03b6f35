use Rattle.std.proofs.Common.{◌≡◌, Ok}
use Rattle.std.proofs.lemmas.Result.{IfOk-weaker}
use Rattle.acd_desk.specs.Desks.DeskState.{state_of}
use Rattle.acd_program.specs.Commands.AuditFindings.{HasCount}
use Rattle.acd_program.proofs.Archives.AuditsWithArchive.{asked_in, found_so}
use Rattle.acd_program.proofs.with_archive.found_in.Goals as goal

pub returns-clause-counted : goal.returns-clause-counted
returns-clause-counted g c = found_so c.found_and_closed.result c.asked_over-found.result.0 (HasCount c.args.counts) (◌≡◌ c.close_connection.result (Ok tt)) c.asked_over-found.ensures.counted c.found_and_closed.ensures

pub returns-clause-asked : goal.returns-clause-asked
returns-clause-asked g c =
    IfOk-weaker c.found_and_closed.result _ _
    (λ found both. asked_in found c.asked_over-found.result.0 c.close_connection.result (state_of g.B.Book c.args.desk.now) (state_of g.B.Book c.asked_over-found.new.desk) c.args.conn c.asked_over-found.result.1
    c.asked_over-found.ensures.asked c.asked_over-found.ensures.spared c.close_connection.ensures.laid both)
    c.found_and_closed.ensures

pub returns-clause-spared : goal.returns-clause-spared
returns-clause-spared g c = record { last = c.asked_over-found.result.1; shut = c.close_connection.ensures.shut; kept = c.asked_over-found.ensures.spared }
