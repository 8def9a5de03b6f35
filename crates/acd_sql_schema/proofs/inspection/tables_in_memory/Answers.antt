use Rattle.std.proofs.Common.{◌≡◌, Err, IfErr, refl, rules, sym, subst}
use Rattle.sqlite.specs.Held.{state}
use Rattle.sqlite.specs.Steps.{over_memory}
use Rattle.sqlite.proofs.Callers.{memory_is_clean}
use Rattle.acd_sql_statements.specs.StoreFailures.{IsMemory}
use Rattle.acd_sql_schema.proofs.Faults.{only_memory}
use Rattle.acd_sql_schema.proofs.inspection.tables_in_memory.Goals as goal

pub returns-in_ok-set_up_empty-in-Ok-clause-made : goal.returns-in_ok-set_up_empty-in-Ok-clause-made
returns-in_ok-set_up_empty-in-Ok-clause-made c = c.in_ok-set_up_empty-in-Ok.ensures.made (memory_is_clean c.set_up_empty.new.conn)

pub returns-in_err-set_up_empty-in-Ok-clause-lacks : goal.returns-in_err-set_up_empty-in-Ok-clause-lacks
returns-in_err-set_up_empty-in-Ok-clause-lacks c =
    let is : c.from_residual.result ≡ Err c.in_err-set_up_empty-in-Ok.field-0.0 = search rules in
    subst (λ r. IfErr r IsMemory) (sym is)
    (only_memory (state over_memory c.in-Ok.conn) (state over_memory c.set_up_empty.new.conn) c.in_err-set_up_empty-in-Ok.field-0.0 refl refl
    c.in-Ok.ensures.empty.0.is_open (c.in_err-set_up_empty-in-Ok.ensures.failed (memory_is_clean c.set_up_empty.new.conn)))
