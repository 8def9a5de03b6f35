use Rattle.std.proofs.Common.{sym, ap, ◌∙◌}
use Rattle.sqlite_keyed.proofs.SliceLemmas.{list_all_true}
use Rattle.sqlite_schema.specs.declared.schema.Schema.{Schema}
use Rattle.acd_sql_statements.proofs.same.is_same_schema.Goals as goal

pub returns-then-not-are_same-2-clause-back : goal.returns-then-not-are_same-2-clause-back
returns-then-not-are_same-2-clause-back c plain same =
    absurd (
    let apart =
    sym (c.are_same-2.ensures.back (list_all_true c.as_slice-4.result.now)
    (c.as_slice-3.ensures ∙ ap (λ (s : Schema). s.indexes) same ∙ sym c.as_slice-4.ensures))
    ∙ c.if-not-are_same-2.true in
    cc)
