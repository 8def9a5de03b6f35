-- The changes of changeGroup and changeAgent, and nothing else.
use Rattle.std.specs.Prelude.{ℕ, ◌≡◌, List, [], Some}
use Rattle.acd_terms.specs.Numbers.{Agent, Device, Moment, Seconds}
use Rattle.acd_terms.specs.declared.rows.Rows.{Rows}
use Rattle.acd_terms.specs.declared.record.GroupRecord.{GroupRecord}
use Rattle.acd_terms.specs.declared.record.AgentRecord.{AgentRecord}
use Rattle.acd_terms.specs.declared.command.Command.{Command}
use Rattle.acd_terms.specs.declared.command.Command.TheVariants.{ChangeGroup, ChangeAgent}
use Rattle.acd_terms.specs.declared.answer.Answer.TheVariants.{Nothing}
use Rattle.acd_terms.specs.declared.answer.Outcome.TheVariants.{Done}
use Rattle.acd_model.specs.Scans.{group_of, agent_of}
use Rattle.acd_model.specs.Writes.{with_group, with_agent, with_last}
use Rattle.acd_model.specs.Step.{step, executed_moment, next_stamp}
use Rattle.acd_model.specs.Rules.First.{BreaksNoRule}

-- the request is done, no event is reported, and but for the last stamp and moment the rows after the step are these
pub record LeadsTo (s : Rows) (moment : Moment) (command : Command) (after : Rows) : Type 0 where
  pub outcome : (step s moment command).outcome ≡ Done Nothing
  pub events : (step s moment command).events ≡ []
  pub rows : (step s moment command).rows ≡ with_last after (next_stamp s) (executed_moment s moment) s.last_event

-- three fields of a planned group's record, and one of a planned agent's: a command for one that isn't planned is
-- refused
pub record ChangesOnly (s : Rows) (moment : Moment) : Type 0 where
  pub group : (device : Device) (name : List ℕ) (ring wrap : Seconds) (g : GroupRecord) → group_of s device ≡ Some g
      → LeadsTo s moment (ChangeGroup device name ring wrap) (with_group s (record g { name = name; ring = ring; wrap = wrap }))
  pub agent : (agent : Agent) (name : List ℕ) (a : AgentRecord) → agent_of s agent ≡ Some a
      → LeadsTo s moment (ChangeAgent agent name) (with_agent s (record a { name = name }))

-- of rows that break no rule: they have no offer left, and none comes of a name, a ring or a wrap
abbrev pub ChangesChangeOnly : Type 0
ChangesChangeOnly = (s : Rows) (moment : Moment) → BreaksNoRule s → ChangesOnly s moment
