use Rattle.std.proofs.Common.{sym, ap, ◌∙◌, min}
use Rattle.std.proofs.lemmas.List.{take_all}
use Rattle.std.specs.Char.{is_ascii_digit}
use Rattle.std.specs.List.{list_all}
use Rattle.std.specs.Str.Parse.{digits_value}
use Rattle.acd_io.proofs.DigitLemmas.{digits_more, cut_more, is_cut, no_digits, no_digit}
use Rattle.acd_io.proofs.digits.number_up_to.Goals as goal

pub returns-then-is_empty-clause-value : goal.returns-then-is_empty-clause-value
returns-then-is_empty-clause-value c = no_digits c.args.digits.now (sym c.is_empty.ensures ∙ c.if-is_empty.true)

pub returns-then-not-is_ascii_digit-clause-value : goal.returns-then-not-is_ascii_digit-clause-value
returns-then-not-is_ascii_digit-clause-value c = no_digit c.args.digits.now c.loop-digit.digit-index c.loop-digit-test.true (sym c.is_ascii_digit.ensures.value ∙ c.if-not-is_ascii_digit.true)

pub loop-digit-preserved : goal.loop-digit-preserved
loop-digit-preserved c =
    let digits = c.args.digits.now in
    let i = c.loop-digit.digit-index in
    let digit = sym c.is_ascii_digit.ensures.value ∙ c.if-not-is_ascii_digit.false in
    record {
      value = cut_more digits i c.loop-digit.number c.from.result c.cut-number.result c.loop-digit-test.true c.loop-digit.invariant.value digit c.from.ensures c.cut-number.ensures;
      digits = digits_more digits i c.loop-digit-test.true c.loop-digit.invariant.digits digit;
    }

pub returns-clause-value : goal.returns-clause-value
returns-clause-value c =
    let digits = c.args.digits.now in
    let whole = take_all c.loop-digit.digit-index digits c.loop-digit-test.false in
    is_cut digits c.loop-digit.number (sym c.is_empty.ensures ∙ c.if-is_empty.false) (ap (list_all is_ascii_digit) (sym whole) ∙ c.loop-digit.invariant.digits)
    (c.loop-digit.invariant.value ∙ ap (λ l. min 1000000000000000 (digits_value 10 l)) whole)
