use Rattle.std.proofs.Common.{◌≡◌, ◌∙◌}
use Rattle.acd_sql_columns.specs.Schema.{old_schema}
use Rattle.acd_sql_columns.specs.declared.tables.Version.TheVariants as version
use Rattle.acd_sql_schema.proofs.Faults.{no_book, not_first, not_same}
use Rattle.acd_sql_schema.proofs.InspectionReads.{begins_of}
use Rattle.acd_sql_schema.proofs.inspection.compared_to_old.Goals as goal

pub returns-then-is_same_first-clause-like : goal.returns-then-is_same_first-clause-like
returns-then-is_same_first-clause-like c new =
    let is : c.schema-of_book.result.now ≡ old_schema = c.schema-of_book.ensures.value ∙ c.in_ok-book.ensures.made in (
      begins_of _ _ c.args.schema.now c.schema-of_book.result.now (c.is_same_first.ensures.same c.if-is_same_first.true) c.as_slice.ensures c.as_slice-2.ensures
          is,
      no_book c.args.schema.now
          (not_same version.First c.args.schema.now c.schema-of_book.result.now c.is_same_schema.result is c.is_same_schema.ensures.back
          c.if-is_same_schema.false)
          new,
    )

pub returns-clause-like : goal.returns-clause-like
returns-clause-like c new =
    let is : c.schema-of_book.result.now ≡ old_schema = c.schema-of_book.ensures.value ∙ c.in_ok-book.ensures.made in (
      not_first _ _ c.args.schema.now c.schema-of_book.result.now c.is_same_first.result c.as_slice.ensures c.as_slice-2.ensures is c.is_same_first.ensures.back
          c.if-is_same_first.false,
      no_book c.args.schema.now
          (not_same version.First c.args.schema.now c.schema-of_book.result.now c.is_same_schema.result is c.is_same_schema.ensures.back
          c.if-is_same_schema.false)
          new,
    )
