use Rattle.std.proofs.Common.{◌∙◌, sym, arith}
use Rattle.acd_lines.proofs.Moments.{number_long, number_faulty, number_fits}
use Rattle.acd_lines.proofs.moment.moment_of_digits.Goals as goal

pub returns-then-digits-gt-DIGITS : goal.returns-then-digits-gt-DIGITS
returns-then-digits-gt-DIGITS c = sym (number_long c.args.digits.now (omega (arith, c.if-digits-gt-DIGITS.true)))

pub returns-in_err-number : goal.returns-in_err-number
returns-in_err-number c = rw c.from_residual.ensures (sym (number_faulty c.args.digits.now (sym c.number_up_to.ensures.value ∙ c.in_err-number.was)))

pub returns : goal.returns
returns c = c.ok.ensures.value ∙ number_fits c.try_from.result c.args.digits.now c.in_ok-number.number c.try_from.ensures (omega (arith, c.if-digits-gt-DIGITS.false)) (sym c.number_up_to.ensures.value ∙ c.in_ok-number.was)
