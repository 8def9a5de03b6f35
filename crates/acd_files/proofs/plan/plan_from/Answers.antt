use Rattle.std.proofs.Common.{ap, sym, ◌∙◌}
use Rattle.acd_reports.specs.Plan.{plan_requests}
use Rattle.acd_files.proofs.Plans.{read_whole}
use Rattle.acd_files.proofs.plan.plan_from.Goals as goal

pub returns-in-Ok-plan_requests : goal.returns-in-Ok-plan_requests
returns-in-Ok-plan_requests g c =
    read_whole (g.R.Read.remaining c.args.reader) c.in-Ok.bytes.items c.in-Ok-plan_requests.requests.items c.in-Ok.ensures
    (ap plan_requests (sym c.deref.ensures.value) ∙ c.in-Ok-plan_requests.ensures)
