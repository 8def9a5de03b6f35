use Rattle.std.proofs.Common.{◌≡◌, ◌+◌, ◌≤◌, length}
use Rattle.acd_reports.specs.Plan.{requests_from}
use Rattle.acd_reports.specs.PlanReaders.{IsPlanReader, read_after, rows_left, unread}
use Rattle.acd_reports.proofs.plan.requests_in.Given as goal

abbrev pub invariant-loop-number : goal.invariant-loop-number
invariant-loop-number l = record {
  plain : IsPlanReader l.reader;
  short : length (unread l.reader) + l.number ≤ l.most;
  so_far : requests_from 1 (rows_left l.initial.reader) ≡ read_after l.requests.items (requests_from (l.number + 1) (rows_left l.reader));
}
