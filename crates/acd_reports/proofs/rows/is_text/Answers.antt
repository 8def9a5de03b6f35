use Rattle.std.proofs.Common.{◌∙◌}
use Rattle.acd_reports.proofs.RowLemmas.{text_test}
use Rattle.acd_reports.proofs.rows.is_text.Goals as goal

pub returns : goal.returns
returns c = c.is_ok.ensures.value ∙ text_test _ _ c.from_utf8.result c.args.field.now c.from_utf8.ensures.cases
