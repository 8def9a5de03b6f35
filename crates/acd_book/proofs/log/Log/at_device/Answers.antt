use Rattle.std.proofs.Common.{◌∙◌}
use Rattle.std.proofs.lemmas.Result.{IfOk-weaker}
use Rattle.acd_book.proofs.MonitorEvents.{page_found, device_found}
use Rattle.acd_book.proofs.log.Log.at_device.Goals as goal

pub returns-in-Some : goal.returns-in-Some
returns-in-Some c =
    let s = c.args.self.now in
    let are = c.in-Some.ensures s.events.items s.listed in
    IfOk-weaker c.events_at.result _ _
    (λ v found. found ∙ page_found c.args.device c.args.number c.args.limit s.events.items c.in-Some.numbers.now s.numbered are) c.events_at.ensures

pub returns-in-None : goal.returns-in-None
returns-in-None c =
    let s = c.args.self.now in
    IfOk-weaker c.first_at.result _ _
    (λ v found. device_found c.args.device c.args.number c.args.limit s.events.items v.items s.numbered (rw c.all_after.ensures at found))
    c.first_at.ensures
