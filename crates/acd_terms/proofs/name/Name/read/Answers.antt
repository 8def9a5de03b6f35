use Rattle.std.proofs.Common.{◌<◌, length, arith, lit<, sym, ◌∙◌, subst}
use Rattle.acd_terms.specs.Forms.{is_name_byte, IsName}
use Rattle.acd_terms.proofs.Identifiers.{all_pass, ascii_name, more_than_none}
use Rattle.acd_terms.proofs.name.Name.read.Goals as goal

pub holding-text-requires : goal.holding-text-requires
holding-text-requires c =
    let all = all_pass is_name_byte c.args.bytes.now (sym c.first_unprintable.ensures ∙ c.in_default.is) in
    (lit< tt, (omega arith, ascii_name c.args.bytes.now all))

pub invariant_of-result : goal.invariant_of-result
invariant_of-result c =
    let all = all_pass is_name_byte c.args.bytes.now (sym c.first_unprintable.ensures ∙ c.in_default.is) in
    let some : 0 < length c.args.bytes.now = more_than_none c.args.bytes.now (c.is_empty.ensures) c.if-is_empty.false in
    subst IsName (sym c.holding-text.ensures) (record { some = some; short = omega arith; all = all })
