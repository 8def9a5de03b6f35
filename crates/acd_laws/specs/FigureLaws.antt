-- The figures that a group keeps are those counted from all events.
use Rattle.std.specs.Prelude.{◌≡◌, min, true, false, List, Option, Some, None, if◌then◌else◌}
use Rattle.acd_terms.specs.Lists.{Among}
use Rattle.acd_terms.specs.Numbers.{Device, Moment}
use Rattle.acd_terms.specs.declared.rows.Rows.{Rows}
use Rattle.acd_terms.specs.declared.record.GroupRecord.{GroupRecord}
use Rattle.acd_terms.specs.declared.record.ConnectionRecord.{ConnectionRecord}
use Rattle.acd_terms.specs.Limits.{greatest_priority}
use Rattle.acd_terms.specs.declared.command.Command.{Command}
use Rattle.acd_terms.specs.declared.command.Command.TheVariants.{SetGroupPriority, ChangeGroup}
use Rattle.acd_terms.specs.declared.event.Event.{Event}
use Rattle.acd_model.specs.Scans.{group_of, is_group, has}
use Rattle.acd_model.specs.Figures.{figures_of, counting}
use Rattle.acd_model.specs.Services.{no_figures}
use Rattle.acd_model.specs.Step.{step}
use Rattle.acd_model.specs.Rules.Calls.{is_group_or_none}
use Rattle.acd_model.specs.Rules.First.{BreaksNoRule}
use Rattle.acd_laws.specs.Forms.{StepKeeps, EachRunEnds}

-- the figures of each group are those that all events count
abbrev pub CountsFigures : Rows → List Event → Type 0
CountsFigures s events = (g : GroupRecord) → Among g s.groups → g.figures ≡ figures_of g.device events

-- and these count nothing for what is no group
pub record KeepsFigures (s : Rows) (events : List Event) : Type 0 where
  pub groups : CountsFigures s events
  pub others : (d : Device) → is_group s d ≡ false → figures_of d events ≡ no_figures
  pub offered_by : (x : ConnectionRecord) → Among x s.connections → is_group_or_none s x.group ≡ true

-- a step of rows that break no rule keeps this, with its events added to those before
abbrev pub StepKeepsFigures : Type 0
StepKeepsFigures = StepKeeps KeepsFigures

-- after every run each group has the figures of all its events
abbrev pub RunKeepsFigures : Type 0
RunKeepsFigures = EachRunEnds CountsFigures

-- the group whose record a command changes
abbrev pub regroups : Command → Option Device
regroups (SetGroupPriority device priority) = Some device
regroups (ChangeGroup device name ring wrap) = Some device
regroups _ = None

-- a group with what such a command gives it
abbrev pub group_given : Command → GroupRecord → GroupRecord
group_given (SetGroupPriority device priority) g = record g { priority = min priority greatest_priority }
group_given (ChangeGroup device name ring wrap) g = record g { name = name; ring = ring; wrap = wrap }
group_given _ g = g

-- a group as a command leaves it
abbrev pub regrouped : Command → GroupRecord → GroupRecord
regrouped command g = if has (regroups command) g.device then group_given command g else g

-- a group as a step leaves it
abbrev pub group_after : Rows → Moment → Command → GroupRecord → GroupRecord
group_after s moment command g = counting (step s moment command).events (regrouped command g)

-- a planned group is as the step leaves it
abbrev pub FiguresContinue : Rows → Moment → Command → Device → GroupRecord → Type 0
FiguresContinue s moment command d g = group_of s d ≡ Some g → group_of (step s moment command).rows d ≡ Some (group_after s moment command g)

-- of a planned group's record a step of rows that break no rule changes the figures, by what its events count, by setGroupPriority of it the
-- priority, and by changeGroup of it name, ring and wrap
abbrev pub StepAddsFigures : Type 0
StepAddsFigures = (s : Rows) (moment : Moment) (command : Command) (d : Device) (g : GroupRecord) → BreaksNoRule s → FiguresContinue s moment command d g
