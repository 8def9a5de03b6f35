use Rattle.std.proofs.Common.{◌∙◌}
use Rattle.acd_sql_columns.specs.declared.tables.Version.TheVariants as version
use Rattle.acd_sql_schema.proofs.Faults.{not_same}
use Rattle.acd_sql_schema.proofs.inspection.compared.Goals as goal

pub returns-clause-like : goal.returns-clause-like
returns-clause-like c =
    c.compared_to_old.ensures.like (not_same version.Second c.args.schema.now c.schema.result.now c.is_same_schema.result
    (c.schema.ensures.value ∙ c.in_ok-book.ensures.made) c.is_same_schema.ensures.back c.if-is_same_schema.false)
