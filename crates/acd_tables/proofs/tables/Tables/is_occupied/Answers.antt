use Rattle.acd_tables.proofs.Firsts.{none-occupied}
use Rattle.acd_tables.proofs.tables.Tables.is_occupied.Goals as goal

pub returns-in-None : goal.returns-in-None
returns-in-None c = none-occupied c.args.self.now c.args.agent.now c.in-None.is
