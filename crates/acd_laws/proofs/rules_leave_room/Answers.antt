-- The room that the rules leave.
use Rattle.acd_laws.proofs.Rules.RulesAll.{rules_leave_room}
use Rattle.acd_laws.proofs.rules_leave_room.Goals as goal

pub returns : goal.returns
returns c = rules_leave_room
