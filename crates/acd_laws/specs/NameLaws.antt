-- Names are inert: nothing that the switch does, answers or reports depends on the name of a group or an agent.
use Rattle.std.specs.Prelude.{◌≡◌, List, [], map}
use Rattle.acd_terms.specs.Rows.{empty_rows}
use Rattle.acd_terms.specs.declared.rows.Rows.{Rows}
use Rattle.acd_terms.specs.declared.rows.Limits.{Limits}
use Rattle.acd_terms.specs.declared.record.GroupRecord.{GroupRecord}
use Rattle.acd_terms.specs.declared.record.AgentRecord.{AgentRecord}
use Rattle.acd_terms.specs.declared.command.Command.{Command}
use Rattle.acd_terms.specs.declared.command.Command.TheVariants.{AddGroup, AddAgent, ChangeGroup, ChangeAgent}
use Rattle.acd_model.specs.Run.{TimedCommand, AfterRun, run}

abbrev pub unnamed_group : GroupRecord → GroupRecord
unnamed_group g = record g { name = [] }

abbrev pub unnamed_agent : AgentRecord → AgentRecord
unnamed_agent a = record a { name = [] }

-- the rows with every name removed, and all else as it is
unfoldable pub unnamed : Rows → Rows
unnamed s = record s { groups = map unnamed_group s.groups; agents = map unnamed_agent s.agents }

-- the command with its name removed: four have one
abbrev pub unnamed_command : Command → Command
unnamed_command (AddGroup device name ring wrap) = AddGroup device [] ring wrap
unnamed_command (AddAgent agent name) = AddAgent agent []
unnamed_command (ChangeGroup device name ring wrap) = ChangeGroup device [] ring wrap
unnamed_command (ChangeAgent agent name) = ChangeAgent agent []
unnamed_command command = command

-- at its moment
abbrev pub unnamed_timed : TimedCommand → TimedCommand
unnamed_timed c = record c { command = unnamed_command c.command }

-- rows that differ in names alone, if at all
abbrev pub SameRowsButNames : Rows → Rows → Type 0
SameRowsButNames s t = unnamed s ≡ unnamed t

-- as many commands, at the same moments, that differ in names alone, if at all
abbrev pub SameCommandsButNames : List TimedCommand → List TimedCommand → Type 0
SameCommandsButNames xs ys = map unnamed_timed xs ≡ map unnamed_timed ys

-- the same outcomes, one for each command, the same events, and rows that differ in names alone
pub record SameRunsButNames (a b : AfterRun) : Type 0 where
  pub outcomes : a.outcomes ≡ b.outcomes
  pub events : a.events ≡ b.events
  pub rows : SameRowsButNames a.rows b.rows

-- Take any two rows that differ in names alone, and any two lists of commands at moments that differ in names alone, and run the one list from
-- the one rows, the other from the other. Then each command has the outcome of the other list's at its place, the events are the same, each
-- with its number and moment, and the rows after the runs differ in names alone.
abbrev pub NamesAreInert : Type 0
NamesAreInert = (s t : Rows) (xs ys : List TimedCommand) → SameRowsButNames s t → SameCommandsButNames xs ys → SameRunsButNames (run s xs) (run t ys)

-- and so from the empty state
abbrev pub RunIgnoresNames : Type 0
RunIgnoresNames = (limits : Limits) (xs ys : List TimedCommand) → SameCommandsButNames xs ys → SameRunsButNames (run (empty_rows limits) xs) (run (empty_rows limits) ys)
