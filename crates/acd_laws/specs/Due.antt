-- What is due at a moment: what a tick at that moment would end.
use Rattle.std.specs.Prelude.{Bool, ◌||◌}
use Rattle.std.specs.List.{list_any}
use Rattle.acd_terms.specs.Numbers.{Moment}
use Rattle.acd_terms.specs.declared.rows.Rows.{Rows}
use Rattle.acd_model.specs.Tick.{is_overdue, is_wrapped_up}
use Rattle.acd_model.specs.Step.{executed_moment}

-- some offer has rung its group's ring, or some after-call work has lasted its group's wrap
unfoldable pub is_due : Rows → Moment → Bool
is_due s moment = list_any (is_overdue s moment) s.connections || list_any (is_wrapped_up s moment) s.agents

-- at the moment at which a request would be executed: this one, or the last one, if that is later
abbrev pub is_due_by : Rows → Moment → Bool
is_due_by s moment = is_due s (executed_moment s moment)
