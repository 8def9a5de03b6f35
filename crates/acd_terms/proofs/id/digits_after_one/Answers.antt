use Rattle.std.proofs.Common.{◌-◌, drop, length, ◌∙◌, ap, arith, length-drop}
use Rattle.std.specs.List.{list_all}
use Rattle.std.specs.Char.{is_ascii}
use Rattle.std.proofs.lemmas.List.{take_all}
use Rattle.acd_terms.proofs.Identifiers.{digits_ascii}
use Rattle.acd_terms.proofs.id.digits_after_one.Goals as goal

pub returns-clause-ascii : goal.returns-clause-ascii
returns-clause-ascii c =
    let bytes = c.as_bytes.result.now in
    let whole = take_all (length bytes - 1) (drop 1 bytes) (omega (arith, length-drop 1 bytes)) in
    ap (list_all is_ascii) (whole ∙ ap (drop 1) (c.as_bytes.ensures.value ∙ c.format.ensures.text)) ∙ digits_ascii c.args.number c.requires.range
