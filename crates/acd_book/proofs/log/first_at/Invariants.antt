use Rattle.std.proofs.Common.{◌≡◌, ◌≤◌, ◌++◌, drop, take, length, vec_len, Some, filter}
use Rattle.acd_book.specs.Content.{is_at}
use Rattle.acd_book.proofs.log.first_at.Given as goal

abbrev pub invariant-loop-event : goal.invariant-loop-event
invariant-loop-event l = record {
  short : length l.found.items ≤ l.limit;
  counted : vec_len l.found ≡ length l.found.items;
  same : take l.limit (l.found.items ++ filter (is_at (Some l.device)) (drop l.event-index l.events)) ≡ take l.limit (filter (is_at (Some l.device)) l.events);
}
