use Rattle.std.proofs.Common.{◌≡◌, true, false, drop, is_some, sym, ap, ◌∙◌, arith, take_all, length-drop}
use Rattle.fast_float.specs.Text.{scan}
use Rattle.serde_json.specs.Read.{number_of, number_from}
use Rattle.acd_codec.proofs.Documents.{positive_is, negative_is}
use Rattle.acd_codec.proofs.document.is_number_in_range.Goals as goal

pub returns-then-has_minus : goal.returns-then-has_minus
returns-then-has_minus c =
    let s = c.as_bytes-bytes.result.now in
    let parts : c.scan.result ≡ scan (drop 1 s) = c.scan.ensures.parts ∙ ap scan (take_all _ (drop 1 s) (omega (arith, length-drop 1 s))) in
    c.is_negative_in_range.ensures ∙ ap is_some (ap (number_from true) parts ∙ sym (negative_is s (sym c.if-has_minus.ensures.value)) ∙ ap number_of c.as_bytes-bytes.ensures.value)

pub returns-else-has_minus : goal.returns-else-has_minus
returns-else-has_minus c =
    let s = c.as_bytes-bytes.result.now in
    c.is_positive_in_range.ensures ∙ ap is_some (ap (number_from false) c.scan-else-has_minus.ensures.parts ∙ sym (positive_is s (sym c.if-has_minus.ensures.value)) ∙ ap number_of c.as_bytes-bytes.ensures.value)
