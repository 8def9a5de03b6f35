-- The figures of a group, counted from the events.
use Rattle.std.specs.Prelude.{◌+◌, Bool, true, false, not, ◌&&◌, ◌==◌, List, Some, map, if◌then◌else◌}
use Rattle.acd_terms.specs.Lists.{count, total}
use Rattle.acd_terms.specs.Numbers.{Device, Seconds}
use Rattle.acd_terms.specs.declared.rows.Rows.{Rows}
use Rattle.acd_terms.specs.declared.record.Figures.{Figures}
use Rattle.acd_terms.specs.declared.record.GroupRecord.{GroupRecord}
use Rattle.acd_terms.specs.declared.event.Cause.{Cause}
use Rattle.acd_terms.specs.declared.event.Cause.TheVariants.{NoAnswer, Deflected}
use Rattle.acd_terms.specs.declared.event.Event.{Event}
use Rattle.acd_terms.specs.declared.event.Report.{Report}
use Rattle.acd_terms.specs.declared.event.Report.TheVariants.{Queued, Established, CallCleared, Diverted}
use Rattle.acd_model.specs.Scans.{has}

abbrev pub is_no_answer : Cause → Bool
is_no_answer NoAnswer = true
is_no_answer _ = false

abbrev pub is_deflected : Cause → Bool
is_deflected Deflected = true
is_deflected _ = false

-- queued at the group with a cause other than noAnswer
abbrev pub is_entry : Device → Report → Bool
is_entry g (Queued call group cause) = group == g && not (is_no_answer cause)
is_entry g _ = false

-- established with the group
abbrev pub is_answer : Device → Report → Bool
is_answer g (Established call station (Some w)) = w.group == g
is_answer g _ = false

-- how long the call waited there
abbrev pub waited_there : Device → Report → Seconds
waited_there g (Established call station (Some w)) = if w.group == g then w.seconds else 0
waited_there g _ = 0

-- callCleared with the group
abbrev pub is_abandonment : Device → Report → Bool
is_abandonment g (CallCleared call group) = has group g
is_abandonment g _ = false

-- diverted with cause deflected and the group
abbrev pub is_moving_away : Device → Report → Bool
is_moving_away g (Diverted call device to cause group) = is_deflected cause && has group g
is_moving_away g _ = false

unfoldable pub figures_of : Device → List Event → Figures
figures_of g events = record {
  entered = count (λ (e : Event). is_entry g e.report) events;
  answered = count (λ (e : Event). is_answer g e.report) events;
  abandoned = count (λ (e : Event). is_abandonment g e.report) events;
  moved = count (λ (e : Event). is_moving_away g e.report) events;
  waited = total (λ (e : Event). waited_there g e.report) events;
}

abbrev pub sum_of_figures : Figures → Figures → Figures
sum_of_figures a b = record {
  entered = a.entered + b.entered;
  answered = a.answered + b.answered;
  abandoned = a.abandoned + b.abandoned;
  moved = a.moved + b.moved;
  waited = a.waited + b.waited;
}

-- the group with what the events add to its figures
abbrev pub counting : List Event → GroupRecord → GroupRecord
counting events g = record g { figures = sum_of_figures g.figures (figures_of g.device events) }

-- each group's figures grow by what the events count
unfoldable pub with_figures : Rows → List Event → Rows
with_figures s events = record s { groups = map (counting events) s.groups }
