-- How long a call rings, and how long after-call work lasts, after a tick.
use Rattle.std.specs.Prelude.{◌≡◌, ◌+◌, ◌-◌, ◌<◌, ◌≤◌, true, false, List, [], ◌∷◌, ◌++◌, Some}
use Rattle.acd_terms.specs.Lists.{Among}
use Rattle.acd_terms.specs.Groups.{least_group}
use Rattle.acd_terms.specs.States.{is_alerting, is_working_after_call}
use Rattle.acd_terms.specs.Rows.{empty_rows}
use Rattle.acd_terms.specs.Numbers.{Device, Moment, Seconds}
use Rattle.acd_terms.specs.declared.rows.Rows.{Rows}
use Rattle.acd_terms.specs.declared.rows.Limits.{Limits}
use Rattle.acd_terms.specs.declared.record.AgentRecord.{AgentRecord}
use Rattle.acd_terms.specs.declared.record.ConnectionRecord.{ConnectionRecord}
use Rattle.acd_terms.specs.declared.command.Command.TheVariants.{Tick}
use Rattle.acd_model.specs.Scans.{group_of}
use Rattle.acd_model.specs.Tick.{ring_of, wrap_of}
use Rattle.acd_model.specs.Step.{step, executed_moment}
use Rattle.acd_model.specs.Run.{TimedCommand, run}
use Rattle.acd_model.specs.Rules.First.{BreaksNoRule}
use Rattle.acd_laws.specs.Due.{is_due}

-- at the last moment of s what began at `since` is younger than a time and what has passed since the tick; a time of 0 means never
abbrev pub IsYoung : Rows → Rows → Seconds → Moment → Type 0
IsYoung ticked s time since = 0 < time → s.last_moment < since + time + (s.last_moment - ticked.last_moment)

-- a state s after the one that a tick left: whatever became of rings and wraps in between, those at the tick count
pub record IsInTime (ticked s : Rows) : Type 0 where
  pub passed : ticked.last_moment ≤ s.last_moment
  -- each call that rings by an offer was offered at a moment, and rings no longer than its group's ring at the tick
  pub offers : (x : ConnectionRecord) (group : Device) → Among x s.connections → is_alerting x.state ≡ true → x.group ≡ Some group
      → (offered : Moment) × (x.offered ≡ Some offered) × IsYoung ticked s (ring_of (group_of ticked group)) offered
  -- each agent in after-call work has a least group, and is in it no longer than that group's wrap at the tick
  pub work : (a : AgentRecord) → Among a s.agents → is_working_after_call a.state ≡ true
      → (group : Device) × (least_group a.groups ≡ Some group) × IsYoung ticked s (wrap_of (group_of ticked group)) a.since

-- after a tick at any moment of rows that break no rule, and after any requests from then on
abbrev pub TickBoundsAnswers : Type 0
TickBoundsAnswers = (s : Rows) (moment : Moment) (more : List TimedCommand) → BreaksNoRule s
    → IsInTime (step s moment Tick).rows (run (step s moment Tick).rows more).rows

abbrev pub tick_at : Moment → TimedCommand
tick_at moment = record { moment = moment; command = Tick }

-- in every run: after each of its ticks, at each state from there on
abbrev pub RunBoundsAnswers : Type 0
RunBoundsAnswers = (limits : Limits) (commands more : List TimedCommand) (moment : Moment)
    → IsInTime (run (empty_rows limits) (commands ++ tick_at moment ∷ [])).rows (run (empty_rows limits) (commands ++ tick_at moment ∷ more)).rows

-- a tick of rows that break no rule leaves nothing that is due at the moment at which it was executed
abbrev pub TickLeavesNone : Type 0
TickLeavesNone = (s : Rows) (moment : Moment) → BreaksNoRule s → is_due (step s moment Tick).rows (executed_moment s moment) ≡ false
