use Rattle.std.proofs.Common.{◌≡◌, ◌≤◌, ◌++◌, drop, take, length, vec_len}
use Rattle.acd_desk.specs.Reads.ReadAnswers.{above}
use Rattle.acd_desk.proofs.page.first_after.Given as goal

abbrev pub invariant-loop-event : goal.invariant-loop-event
invariant-loop-event l = record {
  short : length l.found.items ≤ l.count;
  counted : vec_len l.found ≡ length l.found.items;
  same : take l.count (l.found.items ++ above (drop l.event-index l.events) l.number) ≡ take l.count (above l.events l.number);
}
