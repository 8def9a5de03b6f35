use Rattle.std.proofs.Common.{ap, ◌∙◌}
use Rattle.std.specs.List.{list_all}
use Rattle.std.specs.Char.{is_ascii}
use Rattle.acd_terms.proofs.Texts.{utf8_ascii, ok_utf8}
use Rattle.acd_terms.proofs.short_text.ShortText.as_str.Goals as goal

pub unwrap-requires : goal.unwrap-requires
unwrap-requires g c =
    ok_utf8 c.from_utf8.result _ _ c.from_utf8.ensures.cases
    (λ e h. h.0 (utf8_ascii c.as_bytes.result.now (ap (list_all is_ascii) c.as_bytes.ensures.text ∙ c.as_bytes.ensures.ascii)))
