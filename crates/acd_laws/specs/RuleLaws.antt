-- Rows that break no rule break none after a step.
use Rattle.std.specs.Prelude.{◌≡◌, ◌*◌, ◌^◌, ◌<◌, ◌≤◌, true, List, length}
use Rattle.acd_terms.specs.Lists.{Among}
use Rattle.acd_terms.specs.Limits.{limits_fit}
use Rattle.acd_terms.specs.Rows.{empty_rows}
use Rattle.acd_terms.specs.Numbers.{Moment}
use Rattle.acd_terms.specs.declared.rows.Rows.{Rows}
use Rattle.acd_terms.specs.declared.rows.Limits.{Limits}
use Rattle.acd_terms.specs.declared.record.GroupRecord.{GroupRecord}
use Rattle.acd_terms.specs.declared.command.Command.{Command}
use Rattle.acd_model.specs.Rules.First.{BreaksNoRule}
use Rattle.acd_model.specs.Step.{step}
use Rattle.acd_model.specs.Run.{TimedCommand, run}

-- all thirteen rules, while one more request is allowed
abbrev pub StepKeepsRules : Type 0
StepKeepsRules = (s : Rows) (moment : Moment) (command : Command) → BreaksNoRule s → s.last_stamp < s.limits.requests → BreaksNoRule (step s moment command).rows

-- every run of no more requests than are allowed
abbrev pub RunKeepsRules : Type 0
RunKeepsRules = (limits : Limits) (commands : List TimedCommand) → limits_fit limits ≡ true → length commands ≤ limits.requests → BreaksNoRule (run (empty_rows limits) commands).rows

-- the figures of a group: at most as many calls as requests, and each waited no longer than to the last moment
pub record FiguresWithin (s : Rows) (g : GroupRecord) : Type 0 where
  pub entered : g.figures.entered ≤ s.last_stamp
  pub answered : g.figures.answered ≤ g.figures.entered
  pub abandoned : g.figures.abandoned ≤ g.figures.entered
  pub moved : g.figures.moved ≤ g.figures.entered
  pub waited : g.figures.waited ≤ g.figures.answered * s.last_moment

-- the bounds that the rules give
pub record IsWithinBounds (s : Rows) : Type 0 where
  pub requests : s.limits.requests ≤ 1000000000
  pub last_stamp : s.last_stamp ≤ s.limits.requests
  pub last_call : s.last_call ≤ s.last_stamp
  pub last_monitor : s.last_monitor ≤ s.last_stamp
  pub last_event : s.last_event ≤ 100000 * s.last_stamp
  pub figures : (g : GroupRecord) → Among g s.groups → FiguresWithin s g

abbrev pub RulesBound : Type 0
RulesBound = (s : Rows) → BreaksNoRule s → IsWithinBounds s

-- a group's figures leave room for more, where moments are of 32 bits
pub record FiguresHaveRoom (g : GroupRecord) : Type 0 where
  pub entered : g.figures.entered < 2 ^ 63
  pub answered : g.figures.answered < 2 ^ 63
  pub abandoned : g.figures.abandoned < 2 ^ 63
  pub moved : g.figures.moved < 2 ^ 63
  pub waited : g.figures.waited < 2 ^ 63

abbrev pub RulesLeaveRoom : Type 0
RulesLeaveRoom = (s : Rows) (g : GroupRecord) → BreaksNoRule s → s.last_moment < 2 ^ 32 → Among g s.groups → FiguresHaveRoom g
