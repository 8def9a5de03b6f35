use Rattle.std.proofs.Common.{rules}
use Rattle.acd_desk.specs.Contents.Arrivals.{arrival_at}
use Rattle.acd_desk.proofs.Desks.Commits.{prepares}
use Rattle.acd_desk.proofs.executing.executed.Goals as goal

pub returns : goal.returns
returns c =
    let did = c.in_ok-done.ensures in
    prepares c.args.switch.now c.step_with_changes.new.self (arrival_at c.args.moment c.args.request.now) c.in_ok-done.done.changes.items c.in_ok-done.done.events.items c.in_ok-done.done.outcome c.kept_record-kept.result
    did.rows did.outcome did.events did.kept did.made (search rules)
