use Rattle.std.proofs.lemmas.Result.{IfOk-weaker}
use Rattle.acd_program.proofs.Archives.Exports.{added_in}
use Rattle.acd_program.proofs.export.add_files.Goals as goal

pub returns-clause-added : goal.returns-clause-added
returns-clause-added g c =
    IfOk-weaker c.found_and_closed.result _ _
    (λ done both. added_in c.args.table.now c.add_archived-added.new.table c.add_archived-added.result.0 c.close_connection.result c.args.conn c.add_archived-added.result.1
    c.add_archived-added.ensures.added c.add_archived-added.ensures.spared c.close_connection.ensures.laid both)
    c.found_and_closed.ensures

pub returns-clause-spared : goal.returns-clause-spared
returns-clause-spared g c = record { last = c.add_archived-added.result.1; shut = c.close_connection.ensures.shut; kept = c.add_archived-added.ensures.spared }
