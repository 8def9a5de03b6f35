use Rattle.std.proofs.Common.{◌∙◌, length, arith, ap, sym}
use Rattle.acd_terms.specs.Forms.{number_between}
use Rattle.acd_reports.proofs.RowLemmas.{positive, seconds_are}
use Rattle.acd_reports.proofs.rows.seconds_of.Goals as goal

pub returns : goal.returns
returns c = c.new.ensures ∙ ap (number_between 0 3600) c.number_of.ensures
    ∙ seconds_are c.args.text.now (positive (length c.args.text.now) (sym c.is_empty.ensures ∙ c.if-is_empty.false)) (omega (arith, c.if-text-gt4.false)) (sym c.are_digits.ensures ∙ c.if-not-are_digits.false)
