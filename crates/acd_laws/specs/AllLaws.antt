-- All laws of a state and of the events up to it, together.
use Rattle.std.specs.Prelude.{◌≡◌, ◌<◌, ◌≤◌, true, List, length}
use Rattle.acd_terms.specs.Limits.{limits_fit}
use Rattle.acd_terms.specs.Numbers.{Moment}
use Rattle.acd_terms.specs.declared.rows.Rows.{Rows}
use Rattle.acd_terms.specs.declared.rows.Limits.{Limits}
use Rattle.acd_terms.specs.declared.command.Command.{Command}
use Rattle.acd_terms.specs.declared.event.Event.{Event}
use Rattle.acd_model.specs.CallPlaces.{IsPlaced}
use Rattle.acd_model.specs.OneOffer.{HasOneOffer}
use Rattle.acd_model.specs.Watcher.{IsWatched}
use Rattle.acd_model.specs.Rules.First.{BreaksNoRule}
use Rattle.acd_model.specs.Run.{TimedCommand}
use Rattle.acd_laws.specs.Forms.{AfterStep, HoldsAfterRun}
use Rattle.acd_laws.specs.PlacedLaws.{NamesNoLaterCall}
use Rattle.acd_laws.specs.BalanceLaws.{IsBalanced}
use Rattle.acd_laws.specs.OfferLaws.{LeavesNoOffer}
use Rattle.acd_laws.specs.FigureLaws.{KeepsFigures}
use Rattle.acd_laws.specs.WatchedLaws.{ReportsNoMore}

pub record LawsHold (s : Rows) (events : List Event) : Type 0 where
  -- the rows break no rule
  pub rules : BreaksNoRule s
  -- each call up to the last is cleared, waits in one queue, or is at devices, and no event names a later one
  pub placed : IsPlaced s events
  pub names : NamesNoLaterCall s events
  -- each distributed connection is the one at its station, with its agent, and no other agent is busy
  pub one_offer : HasOneOffer s
  -- no group has both a waiting call and an eligible agent
  pub no_offer : LeavesNoOffer s
  -- each entry into a group waits, rings, was answered, was abandoned or was moved, and its figures are counted from all
  -- events
  pub balanced : IsBalanced s events
  pub figures : KeepsFigures s events
  -- the reports alone give a watcher the connections, the agents and the queues, and no more
  pub watched : IsWatched s events
  pub no_more : ReportsNoMore s events

-- a step keeps them all, while a request more is allowed
abbrev pub StepKeepsLaws : Type 0
StepKeepsLaws = (s : Rows) (events : List Event) (moment : Moment) (command : Command) → s.last_stamp < s.limits.requests → LawsHold s events
    → AfterStep LawsHold s events moment command

-- they all hold of every run of no more requests than are allowed
abbrev pub RunKeepsLaws : Type 0
RunKeepsLaws = (limits : Limits) (commands : List TimedCommand) → limits_fit limits ≡ true → length commands ≤ limits.requests
    → HoldsAfterRun LawsHold limits commands
