use Rattle.std.proofs.Common.{◌∙◌, sym}
use Rattle.csv.specs.Records.{fields_of}
use Rattle.acd_reports.proofs.RowLemmas.{no_row, row_with}
use Rattle.acd_reports.proofs.rows.fields_in.Goals as goal

pub returns-then-len-ne5 : goal.returns-then-len-ne5
returns-then-len-ne5 c = no_row (fields_of c.args.row.now) (λ e. c.if-len-ne5.true (c.len.ensures ∙ e))

pub returns-then-not-are_texts : goal.returns-then-not-are_texts
returns-then-not-are_texts c = row_with _ (fields_of c.args.row.now) c.field.result.now c.field-2.result.now c.field-3.result.now c.field-4.result.now c.field-5.result.now
    (sym c.len.ensures ∙ c.if-len-ne5.false) c.field.ensures c.field-2.ensures c.field-3.ensures c.field-4.ensures c.field-5.ensures (sym c.are_texts.ensures ∙ c.if-not-are_texts.true)

pub returns : goal.returns
returns c = row_with _ (fields_of c.args.row.now) c.field.result.now c.field-2.result.now c.field-3.result.now c.field-4.result.now c.field-5.result.now
    (sym c.len.ensures ∙ c.if-len-ne5.false) c.field.ensures c.field-2.ensures c.field-3.ensures c.field-4.ensures c.field-5.ensures (sym c.are_texts.ensures ∙ c.if-not-are_texts.false)
