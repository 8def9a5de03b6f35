use Rattle.std.proofs.Common.{length, arith, ap}
use Rattle.acd_model.specs.Writes.{with_last}
use Rattle.acd_model.specs.Figures.{with_figures}
use Rattle.acd_switch.proofs.switch.close.Goals as goal

pub grow-requires-clause-room : goal.grow-requires-clause-room
unfolding with_last with_figures
grow-requires-clause-room c = c.requires.room.figures

pub number-requires : goal.number-requires
unfolding with_last with_figures
number-requires c = omega (arith, c.requires.room.event, ap length c.in_ok-grow.ensures.events, ap length c.deref_mut.ensures.value)

pub overflow_add-last : goal.overflow_add-last
unfolding with_last with_figures
overflow_add-last c = omega (arith, c.requires.room.event, ap length c.in_ok-grow.ensures.events, c.len-count.ensures)
