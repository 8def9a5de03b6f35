use Rattle.std.proofs.Common.{false, drop, option_and_then, sym, ap, ◌∙◌}
use Rattle.fast_float.specs.Text.{scan}
use Rattle.serde_json.specs.Find.{as_u64}
use Rattle.serde_json.specs.Read.{number_of, number_from}
use Rattle.acd_codec.proofs.Documents.{positive_is, negative_is, below_zero}
use Rattle.acd_codec.proofs.document.whole_of.Goals as goal

pub returns-then-has_minus : goal.returns-then-has_minus
returns-then-has_minus c =
    let s = c.as_bytes-bytes.result.now in
    sym (ap (option_and_then as_u64) (ap number_of (sym c.as_bytes-bytes.ensures.value) ∙ negative_is s (sym c.if-has_minus.ensures.value)) ∙ below_zero (scan (drop 1 s)))

pub returns-else-has_minus : goal.returns-else-has_minus
returns-else-has_minus c =
    let s = c.as_bytes-bytes.result.now in
    c.unsigned.ensures ∙ ap (option_and_then as_u64) (ap (number_from false) c.scan.ensures.parts ∙ sym (positive_is s (sym c.if-has_minus.ensures.value)) ∙ ap number_of c.as_bytes-bytes.ensures.value)
