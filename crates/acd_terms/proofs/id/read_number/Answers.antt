use Rattle.std.proofs.Common.{◌<◌, length, arith, sym, ◌∙◌, subst}
use Rattle.std.specs.Char.{is_ascii_digit}
use Rattle.acd_terms.specs.Forms.{IsNumberOf}
use Rattle.acd_terms.proofs.Identifiers.{all_pass, formed, more_than_none}
use Rattle.acd_terms.proofs.id.read_number.Goals as goal

pub number_of-requires-clause-all : goal.number_of-requires-clause-all
number_of-requires-clause-all c = all_pass is_ascii_digit c.args.bytes.now (sym c.first_bad.ensures ∙ c.in-None.is)

pub returns-in-None-clause-formed : goal.returns-in-None-clause-formed
returns-in-None-clause-formed c =
    let all = all_pass is_ascii_digit c.args.bytes.now (sym c.first_bad.ensures ∙ c.in-None.is) in
    let some : 0 < length c.args.bytes.now = more_than_none c.args.bytes.now c.is_empty.ensures c.if-is_empty.false in
    subst (IsNumberOf c.args.longest) (sym c.number_of.ensures) (formed c.args.longest c.args.bytes.now c.requires some (omega arith) all)
