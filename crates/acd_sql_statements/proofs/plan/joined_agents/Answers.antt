use Rattle.std.proofs.Common.{inr, refl}
use Rattle.acd_sql_statements.proofs.RowCauses.{at_has}
use Rattle.acd_sql_statements.proofs.plan.joined_agents.Goals as goal

pub returns-in-None-clause-other : goal.returns-in-None-clause-other
returns-in-None-clause-other c =
    inr (
      c.part-item.result,
      at_has c.loop-part.part-index c.args.parts.now c.part-item.result _ c.part-item.is c.loop-part-test.true,
      c.in-None.ensures.other refl,
    )
