use Rattle.std.proofs.Common.{sym, ap, ◌∙◌}
use Rattle.sqlite_keyed.proofs.SliceLemmas.{list_all_true}
use Rattle.sqlite_schema.specs.declared.schema.Table.{Table}
use Rattle.acd_sql_statements.proofs.same.are_same_rules.Goals as goal

pub returns-then-not-are_same-clause-back : goal.returns-then-not-are_same-clause-back
returns-then-not-are_same-clause-back c plain same =
    absurd (
    let apart =
    sym (c.are_same.ensures.back (list_all_true c.as_slice-2.result.now)
    (c.as_slice.ensures ∙ ap (λ (t : Table). t.uniques) same ∙ sym c.as_slice-2.ensures))
    ∙ c.if-not-are_same.true in
    cc)

pub returns-then-not-are_same-2-clause-back : goal.returns-then-not-are_same-2-clause-back
returns-then-not-are_same-2-clause-back c plain same =
    absurd (
    let apart =
    sym (c.are_same-2.ensures.back (list_all_true c.as_slice-4.result.now)
    (c.as_slice-3.ensures ∙ ap (λ (t : Table). t.orders) same ∙ sym c.as_slice-4.ensures))
    ∙ c.if-not-are_same-2.true in
    cc)
