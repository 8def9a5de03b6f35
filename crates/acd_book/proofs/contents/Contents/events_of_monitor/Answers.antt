use Rattle.std.proofs.Common.{rules}
use Rattle.std.proofs.lemmas.Result.{IfOk-weaker}
use Rattle.acd_book.specs.MemoryContent.{memory_content}
use Rattle.acd_book.proofs.MonitorEvents.{monitor_found}
use Rattle.acd_book.proofs.contents.Contents.events_of_monitor.Goals as goal

pub returns-clause-found : goal.returns-clause-found
returns-clause-found c =
    let s = c.args.self.now in
    IfOk-weaker c.at_device.result _ _
    (λ v is. monitor_found (memory_content s) c.args.monitor c.args.number c.args.limit c.in-Some.watched v.items (search rules) (search rules))
    c.at_device.ensures
