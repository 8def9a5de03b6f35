use Rattle.std.proofs.Common.{◌≡◌, ◌≤◌, true, length, take, vec_len, vec_capacity}
use Rattle.acd_terms.specs.Lists.{Every}
use Rattle.acd_desk.specs.Desks.DeskState.{state_of}
use Rattle.acd_desk.specs.Desks.DeskCalls.{Ran, EndsIn, IsStoreFault}
use Rattle.acd_desk.proofs.desk.Desk.run.Given as goal

abbrev pub invariant-loop-i : goal.invariant-loop-i
invariant-loop-i g l = record {
  count : vec_len l.answers ≡ l.i;
  room : length l.arrivals ≤ vec_capacity l.answers;
  later : EndsIn IsStoreFault l.answers.items;
  shut : (state_of g.B.Book l.fn.self).failed ≡ true → Every IsStoreFault l.answers.items;
  ran : Ran (state_of g.B.Book l.fn.self) (take l.i l.arrivals) l.answers.items (state_of g.B.Book l.self);
}
