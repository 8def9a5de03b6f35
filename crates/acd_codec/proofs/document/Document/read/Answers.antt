use Rattle.std.proofs.Common.{option_map, sym, ap, ◌∙◌}
use Rattle.serde_json.specs.Read.{read}
use Rattle.acd_codec.specs.Documents.{data_of}
use Rattle.acd_codec.proofs.Readings.{reads_value, reads_none}
use Rattle.acd_codec.proofs.document.Document.read.Goals as goal

pub returns-in_default-clause-err : goal.returns-in_default-clause-err
returns-in_default-clause-err c = reads_none c.args.bytes.now (λ u. absurd (c.in_default.ensures.cases.0 u))

pub returns-in-Some-clause-ok : goal.returns-in-Some-clause-ok
returns-in-Some-clause-ok c =
    let cases = c.in-Ok.ensures.cases in
    reads_value c.args.bytes.now (data_of c.in-Some.document) cases.1 (ap read (sym cases.0) ∙ sym c.in_ok-document.ensures ∙ ap (option_map data_of) c.in-Some.is)

pub returns-in-None-clause-err : goal.returns-in-None-clause-err
returns-in-None-clause-err c =
    let cases = c.in-Ok.ensures.cases in
    reads_none c.args.bytes.now (λ u. ap read (sym cases.0) ∙ sym c.in_ok-document.ensures ∙ ap (option_map data_of) c.in-None.is)
