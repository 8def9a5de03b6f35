use Rattle.std.proofs.Common.{slice_index_or, sym, ap, ◌∙◌}
use Rattle.acd_sql_columns.proofs.Rows.Records.{meta_exact}
use Rattle.acd_sql_statements.proofs.reads.only_meta.Goals as goal

pub returns-in-Some-clause-found : goal.returns-in-Some-clause-found
returns-in-Some-clause-found c m is =
    meta_exact c.row-item.result c.in-Some.meta m (sym c.in-Some.ensures) (c.row-item.is ∙ ap (λ rows. slice_index_or rows 0 c.row-item.result) is)
