use Rattle.std.proofs.Common.{◌≡◌, ◌++◌, string_bytes, drop, map}
use Rattle.std.specs.List.{concat}
use Rattle.acd_reports.specs.QueueReport.{group_line, report_text}
use Rattle.acd_reports.proofs.queues.groups_report.Given as goal

abbrev pub invariant-loop-state : goal.invariant-loop-state
invariant-loop-state l =
    string_bytes l.report ++ concat (map (group_line l.moment) (drop l.state-index l.groups)) ≡ report_text l.groups l.moment
